-- What `attached` does to part of the rows, and what a new row makes of the rows that are put.
use Rattle.std.proofs.Common.{◌≡◌, ℕ, ◌+◌, ◌<◌, Bool, true, false, cond, eqb, ◌≢◌, List, [], ◌∷◌, ◌++◌, length, take, drop, set, sym, refl, ap, ◌∙◌, arith, length-set}
use borrow.Author.Tests.{eqb-false}
use Rattle.std.proofs.lemmas.List.{get_or-take, take_more_set, drop-set-lt, length-take-le, get_or-set_other}
use Rattle.block.specs.declared.record.Record.{Record}
use Rattle.sheet.specs.declared.rows.NodeRow.{NodeRow}
use Rattle.sheet.specs.Links.{row, no_node}
use Rattle.sheet.proofs.Storing.{take_of_set}
use Rattle.sheet.specs.Appended.{with_ends, with_last, with_next, attached, fresh, appended}

-- a link is none, or leads below n
abbrev pub Below : ℕ → ℕ → Type 0
Below n link = (link ≡ 4294967295 → ⊥) → link < n

pub attached_length : (rows : List NodeRow) (p a z : ℕ) → length (attached rows p a z) ≡ length rows
attached_length rows p a z = go (eqb (row rows p).last 4294967295)
  where
    go : (b : Bool) → length (cond b (set rows p (with_ends a z (row rows p))) (set (set rows (row rows p).last (with_next a (row rows (row rows p).last))) p (with_last z (row rows p)))) ≡ length rows
    go true = length-set rows p (with_ends a z (row rows p))
    go false = length-set (set rows (row rows p).last (with_next a (row rows (row rows p).last))) p (with_last z (row rows p)) ∙ length-set rows (row rows p).last (with_next a (row rows (row rows p).last))

pub attached_take : (m : ℕ) (rows : List NodeRow) (p a z : ℕ) → p < m → Below m (row rows p).last → take m (attached rows p a z) ≡ attached (take m rows) p a z
attached_take m rows p a z h k = rw (get_or-take m rows p no_node h) (go (eqb (row rows p).last 4294967295) refl)
  where
    go : (b : Bool) → eqb (row rows p).last 4294967295 ≡ b
        → take m (cond b (set rows p (with_ends a z (row rows p))) (set (set rows (row rows p).last (with_next a (row rows (row rows p).last))) p (with_last z (row rows p))))
        ≡ cond b (set (take m rows) p (with_ends a z (row rows p))) (set (set (take m rows) (row rows p).last (with_next a (row (take m rows) (row rows p).last))) p (with_last z (row rows p)))
    go true e = take_of_set m rows p (with_ends a z (row rows p))
    go false e =
        let l : (row rows p).last < m = k (eqb-false (row rows p).last 4294967295 e) in
        let new : NodeRow = with_next a (row rows (row rows p).last) in
        rw (get_or-take m rows (row rows p).last no_node l)
        (take_of_set m (set rows (row rows p).last new) p (with_last z (row rows p)) ∙ ap (λ t. set t p (with_last z (row rows p))) (take_of_set m rows (row rows p).last new))

pub attached_drop : (m : ℕ) (rows : List NodeRow) (p a z : ℕ) → p < m → Below m (row rows p).last → drop m (attached rows p a z) ≡ drop m rows
attached_drop m rows p a z h k = go (eqb (row rows p).last 4294967295) refl
  where
    go : (b : Bool) → eqb (row rows p).last 4294967295 ≡ b
        → drop m (cond b (set rows p (with_ends a z (row rows p))) (set (set rows (row rows p).last (with_next a (row rows (row rows p).last))) p (with_last z (row rows p)))) ≡ drop m rows
    go true e = drop-set-lt m rows p (with_ends a z (row rows p)) h
    go false e =
        let new : NodeRow = with_next a (row rows (row rows p).last) in
        drop-set-lt m (set rows (row rows p).last new) p (with_last z (row rows p)) h ∙ drop-set-lt m rows (row rows p).last new (k (eqb-false (row rows p).last 4294967295 e))

-- a row put at n and attached to p
module _ (rows : List NodeRow) (n p : ℕ) (made : Record) (room : n < length rows) (within : p < n) (below : Below n (row (take n rows) p).last)
    (wide : List NodeRow) (put : wide ≡ set rows n (fresh made p)) where
  holder_below : Below n (row wide p).last
  holder_below =
      let ne : p ≢ n = λ e. omega arith in
      rw (put, get_or-set_other rows n p (fresh made p) no_node ne, ← get_or-take n rows p no_node within) below

  -- the rows that are put, the others, and how many there are
  pub append_rows : take (n + 1) (attached wide p n n) ≡ appended (take n rows) p made
  append_rows =
      attached_take (n + 1) wide p n n (omega arith) (λ ne. omega (arith, holder_below ne))
      ∙ ap (λ t. attached (take (n + 1) t) p n n) put
      ∙ ap (λ t. attached t p n n) (take_more_set rows n (fresh made p) room)
      ∙ ap (λ i. attached (take n rows ++ fresh made p ∷ []) p i i) (sym (length-take-le n rows (omega arith)))

  pub append_rest : drop (n + 1) (attached wide p n n) ≡ drop (n + 1) rows
  append_rest =
      attached_drop (n + 1) wide p n n (omega arith) (λ ne. omega (arith, holder_below ne))
      ∙ ap (λ t. drop (n + 1) t) put
      ∙ drop-set-lt (n + 1) rows n (fresh made p) (omega arith)
