-- The last row of a declarations' list.
use Rattle.std.specs.Prelude.{ℕ, zero, suc, cond, List, length, nat_lt}
use Rattle.sheet.specs.declared.rows.DeclarationRow.{DeclarationRow}
use Rattle.sheet.specs.Chains.{next_declaration}

-- the row where the list from a ends, after at most so many steps; none is no row's number
abbrev pub end_from : ℕ → List DeclarationRow → ℕ → ℕ
end_from zero rows a = a
end_from (suc n) rows a = cond (nat_lt (next_declaration rows a) (length rows)) (end_from n rows (next_declaration rows a)) a

-- a list has at most as many rows as are put
abbrev pub end_of : List DeclarationRow → ℕ → ℕ
end_of rows a = end_from (length rows) rows a
