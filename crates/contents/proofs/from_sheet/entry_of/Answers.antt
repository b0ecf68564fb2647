use Rattle.contents_laws.proofs.Sound.{name-short}
use Rattle.sheet_lines.specs.Models.{body_model}
use Rattle.contents.proofs.Filled.{start-digits}
use Rattle.contents.proofs.Lines.{line-body, line-held}
use Rattle.contents.proofs.from_sheet.entry_of.Goals as goal

pub start_field-start-requires : goal.start_field-start-requires
start_field-start-requires c = let d = start-digits c.args.cipher (body_model c.args.body) c.requires in record { room = d.0; hex = d.1 }

pub name_field-name-requires : goal.name_field-name-requires
name_field-name-requires c = name-short c.args.body.name.now c.requires.named

pub returns : goal.returns
returns c = record {
  value = line-body c.args.cipher (body_model c.args.body) c.start_field-start.result c.name_field-name.result c.requires
      c.start_field-start.ensures c.name_field-name.ensures;
  held = line-held c.args.cipher (body_model c.args.body) c.start_field-start.result c.name_field-name.result c.requires
      c.start_field-start.ensures c.name_field-name.ensures;
}
