-- What is shown of a block of a file.
use Rattle.std.specs.Prelude.{◌≡◌, ℕ, Bool, true, false, List, length, take, Some, None, vec_items}
use Rattle.block.specs.Block.{fault_of, records_of}
use Rattle.encode.specs.declared.page.Page.{Page}
use Rattle.encode.specs.declared.page.Page.TheVariants.{Good, Bad, End}

-- a page of the bytes where the block of a place should begin: of a good block its records, of another its fault
abbrev pub Shows : List ℕ → ℕ → Page → Type 0
Shows bytes place (Good n records) = (n ≡ place) × (fault_of bytes place ≡ None) × (vec_items records ≡ records_of (take 512 bytes))
Shows bytes place (Bad n fault) = (n ≡ place) × (fault_of bytes place ≡ Some fault)
Shows bytes place End = length bytes ≡ 0

-- nothing is wrong with a page
abbrev pub is_good : Page → Bool
is_good (Good n records) = true
is_good (Bad n fault) = false
is_good End = true
