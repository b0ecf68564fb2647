use Rattle.std.proofs.Common.{rules}
use Rattle.sheet_format.specs.Orders.{bodies_in}
use Rattle.sheet_format.specs.Sizes.{block_length}
use Rattle.sheet_lines.specs.Models.{body_model}
use Rattle.sheet.proofs.Steps.{blocks-push}
use Rattle.sheet.proofs.progress.Progress.admit.Goals as goal

pub returns-then-blocks-self-clause-value : goal.returns-then-blocks-self-clause-value
returns-then-blocks-self-clause-value c =
    λ earlier st.
    let e = blocks-push (block_length c.in_ok-cipher.cipher) (bodies_in earlier) (body_model c.args.body) in search (rules, e)

pub returns-clause-value : goal.returns-clause-value
returns-clause-value c =
    λ earlier st.
    let e = blocks-push (block_length c.in_ok-cipher.cipher) (bodies_in earlier) (body_model c.args.body) in search (rules, e)
