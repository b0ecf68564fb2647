-- Worked examples of the text that `list` prints.
use Rattle.std.specs.Prelude.{◌≡◌, codes}
use Rattle.listing.specs.Listing.{listing_of}

pub record ListingExamples : Type 0 where
  pub accepted : listing_of (codes "c magma\nb ctr 12345678 3 plan.dwg\nb cbc 0011223344556677 16 roof.pdf\n")
      ≡ codes "c magma 8\nb 1 ctr 3 1 3 plan.dwg\nb 2 cbc 16 3 24 roof.pdf\ntotal 2 4\n"
  -- one START digit too few in line 3
  pub refused : listing_of (codes "c magma\nb ctr 12345678 3 plan.dwg\nb cbc 001122334455667 16 roof.pdf\n") ≡ codes "no 2 6 3\n"
