use Rattle.kuznyechik_spec.proofs.Lawful.{lawful-key}
use Rattle.kuznyechik_spec.proofs.lawful_with_every_key.Goals as goal

pub returns : goal.returns
returns c = lawful-key
