-- A slot of 56 bytes of the work area: the name of a body and, if it is in ctr, its START.
use Rattle.std.specs.Prelude.{ℕ, ◌+◌, min, List, [], slice_index}
use Rattle.std.specs.List.{between}
use Rattle.sheet_format.specs.Lines.{Body}
use Rattle.sheet_format.specs.declared.Mode.{Mode}
use Rattle.sheet_format.specs.declared.Mode.TheVariants.{Ctr, Cbc}

-- byte 0 has the length of the name, which begins at byte 24
abbrev pub name_kept : List ℕ → List ℕ
name_kept slot = between 24 (min (24 + slice_index slot 0) 56) slot

-- byte 1 has the length of START, which begins at byte 8
abbrev pub start_kept : List ℕ → List ℕ
start_kept slot = between 8 (min (8 + slice_index slot 1) 24) slot

abbrev pub in_ctr : Mode → List ℕ → List ℕ
in_ctr Ctr start = start
in_ctr Cbc start = []

abbrev pub ctr_start : Body → List ℕ
ctr_start b = in_ctr b.mode b.start
