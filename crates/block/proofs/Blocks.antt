-- A good block.
use Rattle.std.proofs.Common.{◌≡◌, ℕ, ◌≤◌, List, length, take, None, arith}
use Rattle.std.proofs.lemmas.Bool.Decides.{nat_tests}
use Rattle.block.specs.Block.{fault_in, fault_of, number_in, count_in}

pub fault_whole : (bytes block : List ℕ) (place : ℕ) → 512 ≤ length bytes → block ≡ take 512 bytes → fault_of bytes place ≡ fault_in block place
fault_whole bytes block place h e = grind (arith, nat_tests)

pub good_number : (block : List ℕ) (place : ℕ) → fault_in block place ≡ None → number_in block ≡ place
good_number block place h = grind (arith, nat_tests)

pub good_count : (block : List ℕ) (place : ℕ) → fault_in block place ≡ None → count_in block ≤ 31
good_count block place h = grind (arith, nat_tests)
