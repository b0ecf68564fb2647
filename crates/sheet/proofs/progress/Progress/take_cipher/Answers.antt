use Rattle.std.proofs.Common.{◌≡◌, None, rules}
use Rattle.sheet.proofs.Steps.{stands-cipher}
use Rattle.sheet.proofs.progress.Progress.take_cipher.Goals as goal

pub returns : goal.returns
returns c =
    let none : c.args.self.now.cipher ≡ None = search rules in
    record {
      answer = λ earlier st. search rules;
      next = λ earlier st. stands-cipher c.args.self.now earlier st c.args.cipher none;
    }
