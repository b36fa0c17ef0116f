-- The values that kept rows name are put.
use Rattle.std.proofs.Common.{◌≡◌, ℕ, ◌+◌, ◌≤◌, Bool, true, ◌&&◌, ltb, List, [], ◌∷◌, ◌++◌, length, Some, None, Option, refl, ◌∙◌, arith, length-append}
use Rattle.std.proofs.lemmas.Bool.{and_parts, and_from, ltb-true, lt-ltb}
use Rattle.screen.specs.Lists.{every, is_put, gathered, present}
use Rattle.screen.specs.Values.{value_of, children_of}
use Rattle.screen.specs.Named.{operand, optional_put, inner, value_named, node_named}
use Rattle.screen.specs.Users.{names_of, names_in, namings}
use Rattle.screen.specs.WellFormed.{is_listed, node_listed, value_kept, values_kept, nodes_kept}
use Rattle.screen.specs.Entries.{entry_of}
use Rattle.screen.specs.Records.{value_record}
use Rattle.screen.specs.declared.rows.IdentifierRow.{IdentifierRow}
use Rattle.screen.specs.declared.rows.ReadRow.{ReadRow}
use Rattle.screen.specs.declared.rows.ValueRow.{ValueRow}
use Rattle.screen.specs.declared.value.Value.{Value}
use Rattle.screen.specs.declared.value.Value.TheVariants.{Other, Simple, LoadLocal, StoreConst, StoreLocal, Logical, Conditional, Sequence, Optional, Inner}
use Rattle.screen.specs.declared.node.Node.{Node}
use Rattle.screen.specs.declared.node.Node.TheVariants.{Body, Add, Terminal, Arm, Scope, Pruned}
use Rattle.screen.specs.declared.scope.Status.{Status}
use Rattle.screen.proofs.Members.{every_append}

module _ (is : List IdentifierRow) (rs : List ReadRow) (vs : List ValueRow) (n : ℕ) (few : length vs ≤ n) where
  low : (k : ℕ) (b : Bool) → (is_put vs k && b) ≡ true → ltb k n ≡ true
  low k b h = lt-ltb k n (omega (arith, ltb-true k (length vs) (and_parts (is_put vs k) b h).0))

  one_below : (k : ℕ) → operand vs k ≡ true → every (λ j. ltb j n) (k ∷ []) ≡ true
  one_below k h = and_from (ltb k n) true (low k _ h) refl

  option_below : (o : Option ℕ) → inner vs o ≡ true → every (λ j. ltb j n) (present (o ∷ [])) ≡ true
  option_below None h = refl
  option_below (Some k) h = and_from (ltb k n) true (low k _ h) refl

  with_inner : (k : ℕ) (o : Option ℕ) → (operand vs k && inner vs o) ≡ true → every (λ j. ltb j n) (k ∷ present (o ∷ [])) ≡ true
  with_inner k o h =
      let t = and_parts (operand vs k) (inner vs o) h in
      and_from (ltb k n) (every (λ j. ltb j n) (present (o ∷ []))) (low k _ t.0) (option_below o t.1)

  value_below : (x : Value) → value_named is rs vs x ≡ true → every (λ j. ltb j n) (present (children_of x)) ≡ true
  value_below (Other r) h = refl
  value_below (Simple r) h = refl
  value_below (LoadLocal r) h = refl
  value_below (StoreConst r s) h = refl
  value_below (StoreLocal r s) h = refl
  value_below (Logical a b) h =
      let t = and_parts (operand vs a) (operand vs b) h in
      and_from (ltb a n) (every (λ j. ltb j n) (b ∷ [])) (low a _ t.0) (one_below b t.1)
  value_below (Conditional a b c) h =
      let t = and_parts (operand vs a && operand vs b) (operand vs c) h in
      let u = and_parts (operand vs a) (operand vs b) t.0 in
      and_from (ltb a n) (every (λ j. ltb j n) (b ∷ c ∷ [])) (low a _ u.0) (and_from (ltb b n) (every (λ j. ltb j n) (c ∷ [])) (low b _ u.1) (one_below c t.1))
  value_below (Sequence o v f) h = with_inner v f h
  value_below (Optional v) h = one_below v h
  value_below (Inner o v f) h = with_inner v f h

  pub node_below : (ss : List Status) (x : Node) → node_named is vs ss x ≡ true → every (λ j. ltb j n) (names_in x) ≡ true
  node_below ss Body h = refl
  node_below ss (Add o v t) h = one_below v (and_parts (operand vs v) (optional_put is t) h).0
  node_below ss (Terminal k o None) h = refl
  node_below ss (Terminal k o (Some v)) h = one_below v h
  node_below ss Arm h = refl
  node_below ss (Scope k) h = refl
  node_below ss (Pruned k) h = refl

pub values_below : (is : List IdentifierRow) (rs : List ReadRow) (before vs : List ValueRow) (n : ℕ) → length before + length vs ≤ n → values_kept is rs before vs ≡ true → every (λ j. ltb j n) (gathered names_of vs) ≡ true
values_below is rs before [] n l h = refl
values_below is rs before (v ∷ vs) n l h =
    let t = and_parts (value_kept is rs before v) (values_kept is rs (before ++ v ∷ []) vs) h in
    let u = and_parts (is_listed (entry_of (value_record v))) (value_named is rs before (value_of v)) t.0 in
    every_append (λ j. ltb j n) (names_of v) (gathered names_of vs)
    ∙ and_from (every (λ j. ltb j n) (names_of v)) (every (λ j. ltb j n) (gathered names_of vs))
    (value_below is rs before n (omega arith) (value_of v) u.1)
    (values_below is rs (before ++ v ∷ []) vs n (omega (arith, length-append before (v ∷ []))) t.1)

rest_below : (is : List IdentifierRow) (rs : List ReadRow) (vs : List ValueRow) (ss : List Status) (xs : List Node) → every (λ x. node_listed x && node_named is vs ss x) xs ≡ true → every (λ j. ltb j (length vs)) (gathered names_in xs) ≡ true
rest_below is rs vs ss [] h = refl
rest_below is rs vs ss (x ∷ xs) h =
    let t = and_parts (node_listed x && node_named is vs ss x) (every (λ y. node_listed y && node_named is vs ss y) xs) h in
    every_append (λ j. ltb j (length vs)) (names_in x) (gathered names_in xs)
    ∙ and_from (every (λ j. ltb j (length vs)) (names_in x)) (every (λ j. ltb j (length vs)) (gathered names_in xs))
    (node_below is rs vs (length vs) (omega arith) ss x (and_parts (node_listed x) (node_named is vs ss x) t.0).1)
    (rest_below is rs vs ss xs t.1)

pub nodes_below : (is : List IdentifierRow) (rs : List ReadRow) (vs : List ValueRow) (ss : List Status) (xs : List Node) → nodes_kept is vs ss xs ≡ true → every (λ j. ltb j (length vs)) (gathered names_in xs) ≡ true
nodes_below is rs vs ss [] h = refl
nodes_below is rs vs ss (Body ∷ xs) h = rest_below is rs vs ss xs h
nodes_below is rs vs ss (Add o v t ∷ xs) h = absurd (let z : ◌≡◌ {A = ℕ} 0 1 = cc in omega arith)
nodes_below is rs vs ss (Terminal k o v ∷ xs) h = absurd (let z : ◌≡◌ {A = ℕ} 0 1 = cc in omega arith)
nodes_below is rs vs ss (Arm ∷ xs) h = absurd (let z : ◌≡◌ {A = ℕ} 0 1 = cc in omega arith)
nodes_below is rs vs ss (Scope k ∷ xs) h = absurd (let z : ◌≡◌ {A = ℕ} 0 1 = cc in omega arith)
nodes_below is rs vs ss (Pruned k ∷ xs) h = absurd (let z : ◌≡◌ {A = ℕ} 0 1 = cc in omega arith)

-- every value that is named is put
pub namings_below : (is : List IdentifierRow) (rs : List ReadRow) (vs : List ValueRow) (ss : List Status) (xs : List Node) → values_kept is rs [] vs ≡ true → nodes_kept is vs ss xs ≡ true
    → every (λ j. ltb j (length vs)) (namings vs xs) ≡ true
namings_below is rs vs ss xs h k =
    every_append (λ j. ltb j (length vs)) (gathered names_of vs) (gathered names_in xs)
    ∙ and_from (every (λ j. ltb j (length vs)) (gathered names_of vs)) (every (λ j. ltb j (length vs)) (gathered names_in xs))
    (values_below is rs [] vs (length vs) (omega arith) h)
    (nodes_below is rs vs ss xs k)
