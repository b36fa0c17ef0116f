-- What a value is, and which values it names.
use Rattle.std.specs.Prelude.{ℕ, cond, List, [], ◌∷◌, Some, None, Option, ◌==◌}
use Rattle.screen.specs.declared.rows.ValueRow.{ValueRow}
use Rattle.screen.specs.declared.value.Reads.{Reads}
use Rattle.screen.specs.declared.value.Value.{Value}
use Rattle.screen.specs.declared.value.Value.TheVariants.{Other, Simple, LoadLocal, StoreConst, StoreLocal, Logical, Conditional, Sequence, Optional, Inner}

-- a row that a field names, or none
abbrev pub optional : ℕ → Option ℕ
optional n = cond (n == 4294967295) None (Some n)

-- the reads of an instruction's row
abbrev pub reads_of : ValueRow → Reads
reads_of v = record { first = v.r; count = v.q }

-- a value by its kind; 1 to 9 but 5 are alike to all that follows
abbrev pub value_by : ValueRow → Value
value_by v =
    cond (v.kind == 0) (Other (reads_of v))
    (cond (v.kind == 5) (LoadLocal (reads_of v))
    (cond (v.kind == 10) (StoreConst (reads_of v) v.s)
    (cond (v.kind == 11) (StoreLocal (reads_of v) v.s)
    (cond (v.kind == 12) (Logical v.r v.s)
    (cond (v.kind == 13) (Conditional v.r v.s v.t)
    (cond (v.kind == 14) (Sequence v.r v.s (optional v.t))
    (cond (v.kind == 15) (Optional v.r)
    (cond (v.kind == 16) (Inner v.r v.s (optional v.t))
    (Simple (reads_of v))))))))))

-- what a value's row says (shut, so that proofs above it stay small)
unfoldable pub value_of : ValueRow → Value
value_of v = value_by v

-- the values that a value names: three places for those that it computes with, and the last for its first inner instruction, or the next one
abbrev pub children_of : Value → List (Option ℕ)
children_of (Other r) = None ∷ None ∷ None ∷ None ∷ []
children_of (Simple r) = None ∷ None ∷ None ∷ None ∷ []
children_of (LoadLocal r) = None ∷ None ∷ None ∷ None ∷ []
children_of (StoreConst r s) = None ∷ None ∷ None ∷ None ∷ []
children_of (StoreLocal r s) = None ∷ None ∷ None ∷ None ∷ []
children_of (Logical l r) = Some l ∷ Some r ∷ None ∷ None ∷ []
children_of (Conditional t c a) = Some t ∷ Some c ∷ Some a ∷ None ∷ []
children_of (Sequence o v f) = Some v ∷ None ∷ None ∷ f ∷ []
children_of (Optional v) = Some v ∷ None ∷ None ∷ None ∷ []
children_of (Inner o v n) = Some v ∷ None ∷ None ∷ n ∷ []
