use Rattle.kuznyechik_spec.specs.Kuznyechik.{add_key, lsx}
use Rattle.kuznyechik_spec.proofs.Linear.{add_key-block}
use Rattle.kuznyechik_spec.proofs.Lookup.{lookup-inverse, lookup-round}
use Rattle.kuznyechik_spec.proofs.rounds_by_tables.Goals as goal

pub returns : goal.returns
unfolding lsx
returns c = record {
  round = λ t h k a hk ha. lookup-round t h (add_key k a) (add_key-block hk ha);
  inverse = lookup-inverse;
}
