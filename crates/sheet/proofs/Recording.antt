-- The records that made the nodes, with one node more.
use Rattle.std.proofs.Common.{◌≡◌, ℕ, zero, suc, Bool, true, false, cond, ◌&&◌, eqb, List, [], ◌∷◌, ◌++◌, length, set, sym, refl, ap, ◌∙◌}
use Rattle.std.proofs.lemmas.Bool.{and_from}
use Rattle.block.specs.declared.record.Record.{Record}
use Rattle.screen.specs.Entries.{entry_of}
use Rattle.screen.specs.Lists.{every}
use Rattle.screen.specs.WellFormed.{is_listed}
use Rattle.screen.proofs.Members.{every_append}
use Rattle.sheet.specs.declared.rows.NodeRow.{NodeRow}
use Rattle.sheet.specs.Links.{row}
use Rattle.sheet.specs.Appended.{with_ends, with_last, with_next, attached, fresh, appended}
use Rattle.sheet.specs.Holds.{RecordsListed}
use Rattle.sheet.proofs.Planting.{set_made}

-- what made the node asks for something
abbrev made_listed : NodeRow → Bool
made_listed n = is_listed (entry_of n.made)

-- a write that keeps what made a row keeps the records
set_listed : (rows : List NodeRow) (i : ℕ) (r : NodeRow) → r.made ≡ (row rows i).made → every made_listed (set rows i r) ≡ every made_listed rows
set_listed [] i r e = refl
set_listed (x ∷ xs) zero r e = ap (λ m. is_listed (entry_of m) && every made_listed xs) e
set_listed (x ∷ xs) (suc i) r e = ap (λ b. made_listed x && b) (set_listed xs i r e)

set_records : (rows : List NodeRow) (i : ℕ) (r : NodeRow) → r.made ≡ (row rows i).made → RecordsListed rows → RecordsListed (set rows i r)
set_records [] i r e h = absurd h
set_records (x ∷ xs) zero r e h = (e ∙ h.0, h.1)
set_records (x ∷ xs) (suc i) r e h = (h.0, set_listed xs i r e ∙ h.1)

attached_records : (rows : List NodeRow) (p a z : ℕ) → RecordsListed rows → RecordsListed (attached rows p a z)
attached_records rows p a z h = go (eqb (row rows p).last 4294967295)
  where
    go : (b : Bool) → RecordsListed (cond b (set rows p (with_ends a z (row rows p))) (set (set rows (row rows p).last (with_next a (row rows (row rows p).last))) p (with_last z (row rows p))))
    go true = set_records rows p (with_ends a z (row rows p)) refl h
    go false =
        let new : NodeRow = with_next a (row rows (row rows p).last) in
        set_records (set rows (row rows p).last new) p (with_last z (row rows p)) (sym (set_made rows (row rows p).last new p refl)) (set_records rows (row rows p).last new refl h)

-- one row more at the end
push_records : (rows : List NodeRow) (x : NodeRow) → RecordsListed rows → made_listed x ≡ true → RecordsListed (rows ++ x ∷ [])
push_records [] x h l = absurd h
push_records (r ∷ rs) x h l = (h.0, every_append made_listed rs (x ∷ []) ∙ and_from (every made_listed rs) (made_listed x && true) h.1 (and_from (made_listed x) true l refl))

pub appended_records : (rows : List NodeRow) (p : ℕ) (made : Record) → RecordsListed rows → is_listed (entry_of made) ≡ true → RecordsListed (appended rows p made)
appended_records rows p made h l = attached_records (rows ++ fresh made p ∷ []) p (length rows) (length rows) (push_records rows (fresh made p) h l)
