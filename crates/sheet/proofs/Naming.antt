-- Whether a row is named, by one test of each row that names: a row names nothing but what stands in its fields.
use Rattle.std.proofs.Common.{◌≡◌, ℕ, Bool, true, false, cond, ◌||◌, eqb, List, [], ◌∷◌, Some, None, Option, refl, sym, ap, ◌∙◌}
use Rattle.std.proofs.lemmas.Bool.{cond_both}
use Rattle.std.specs.List.{list_any}
use Rattle.std.specs.Option.{option_eq}
use borrow.Author.Tests.{clash}
use Rattle.block.specs.declared.record.Record.{Record}
use Rattle.screen.specs.declared.entry.Entry.{Entry}
use Rattle.screen.specs.declared.entry.Entry.TheVariants as entry
use Rattle.screen.specs.declared.entry.Put.TheVariants as put
use Rattle.screen.specs.declared.kinds.TypeKind.{TypeKind}
use Rattle.screen.specs.declared.kinds.PathKind.{PathKind}
use Rattle.screen.specs.declared.kinds.TerminalKind.{TerminalKind}
use Rattle.screen.specs.declared.node.Node.TheVariants as node
use Rattle.screen.specs.declared.rows.ValueRow.{ValueRow}
use Rattle.screen.specs.declared.value.Value.{Value}
use Rattle.screen.specs.Kinds.{type_kind_of, path_kind_of, terminal_kind_of}
use Rattle.screen.specs.Entries.{listed, type_by, path_by, terminal_by, type_entry, identifier_entry, path_entry, scope_entry, dependency_entry, declaration_entry, reassignment_entry, read_entry, value_entry, add_entry, terminal_entry, arm_entry, opened_entry, open_entry, plain_entry, shape_entry, entry_of, node_in, node_by, node_of}
use Rattle.screen.specs.Lists.{member, gathered, present}
use Rattle.screen.specs.Users.{names_of, names_in}
use Rattle.screen.specs.Values.{optional, value_of, children_of}
use Rattle.screen.proofs.Members.{member_append}

-- a number is among those that are there where one of the places holds it
pub member_present : (same : ℕ → ℕ → Bool) (k : ℕ) → ((n : ℕ) → same n k ≡ eqb n k) → (os : List (Option ℕ)) → list_any (λ o. option_eq same o (Some k)) os ≡ member k (present os)
member_present same k h [] = refl
member_present same k h (None ∷ os) = member_present same k h os
member_present same k h (Some n ∷ os) = rw (h n) (ap (λ b. eqb n k || b) (member_present same k h os))

pub member_gathered : {A : Type 0} (k : ℕ) (f : A → List ℕ) (xs : List A) → member k (gathered f xs) ≡ list_any (λ x. member k (f x)) xs
member_gathered k f [] = refl
member_gathered k f (x ∷ xs) = member_append k (f x) (gathered f xs) ∙ ap (λ b. member k (f x) || b) (member_gathered k f xs)

no : {A : Type 0} → false ≡ true → A
no h = absurd (clash h)

-- k is in these places only where a field of the row is k
abbrev Fielded : ValueRow → ℕ → List (Option ℕ) → Type 0
Fielded v k os = member k (present os) ≡ true → (eqb v.r k || eqb v.s k || eqb v.t k) ≡ true

r_alone : (r s t : Bool) → (r || false) ≡ true → (r || s || t) ≡ true
r_alone true s t h = refl
r_alone false s t h = no h

s_alone : (r s t : Bool) → (s || false) ≡ true → (r || s || t) ≡ true
s_alone true s t h = refl
s_alone false true t h = refl
s_alone false false t h = no h

r_or_s : (r s t : Bool) → (r || (s || false)) ≡ true → (r || s || t) ≡ true
r_or_s true s t h = refl
r_or_s false s t h = s_alone false s t h

s_or_t : (r s t : Bool) → (s || (t || false)) ≡ true → (r || s || t) ≡ true
s_or_t true s t h = refl
s_or_t false true t h = refl
s_or_t false false true h = refl
s_or_t false false false h = no h

any_of : (r s t : Bool) → (r || (s || (t || false))) ≡ true → (r || s || t) ≡ true
any_of true s t h = refl
any_of false s t h = s_or_t false s t h

-- a value and an inner instruction, or the next
s_and_next : (v : ValueRow) (k : ℕ) → Fielded v k (Some v.s ∷ None ∷ None ∷ optional v.t ∷ [])
s_and_next v k =
    cond_both (eqb v.t 4294967295) None (Some v.t) (λ o. Fielded v k (Some v.s ∷ None ∷ None ∷ o ∷ []))
    (λ _. s_alone (eqb v.r k) (eqb v.s k) (eqb v.t k)) (λ _. s_or_t (eqb v.r k) (eqb v.s k) (eqb v.t k))

fielded : (v : ValueRow) (k : ℕ) → Fielded v k (children_of (value_of v))
unfolding value_of
fielded v k =
    let P : Value → Type 0 = λ c. Fielded v k (children_of c) in
    cond_both (eqb v.kind 0) _ _ P (λ _ h. no h) (λ _.
    cond_both (eqb v.kind 5) _ _ P (λ _ h. no h) (λ _.
    cond_both (eqb v.kind 10) _ _ P (λ _ h. no h) (λ _.
    cond_both (eqb v.kind 11) _ _ P (λ _ h. no h) (λ _.
    cond_both (eqb v.kind 12) _ _ P (λ _. r_or_s (eqb v.r k) (eqb v.s k) (eqb v.t k)) (λ _.
    cond_both (eqb v.kind 13) _ _ P (λ _. any_of (eqb v.r k) (eqb v.s k) (eqb v.t k)) (λ _.
    cond_both (eqb v.kind 14) _ _ P (λ _. s_and_next v k) (λ _.
    cond_both (eqb v.kind 15) _ _ P (λ _. r_alone (eqb v.r k) (eqb v.s k) (eqb v.t k)) (λ _.
    cond_both (eqb v.kind 16) _ _ P (λ _. s_and_next v k) (λ _ h. no h)))))))))

absent : (a b : Bool) → (b ≡ true → a ≡ true) → a ≡ false → b ≡ false
absent a false f h = refl
absent a true f h = no (sym h ∙ f refl)

-- so a row with k in no field does not name it
pub value_absent : (v : ValueRow) (k : ℕ) → (eqb v.r k || eqb v.s k || eqb v.t k) ≡ false → member k (names_of v) ≡ false
value_absent v k h = absent (eqb v.r k || eqb v.s k || eqb v.t k) (member k (names_of v)) (fielded v k) h

-- the node that an entry makes names k only where s of the record is k
abbrev In_s : Record → ℕ → Option Entry → Type 0
In_s x k None = Unit {0}
In_s x k (Some e) = member k (names_in (node_in e)) ≡ true → eqb x.s k ≡ true

by_test : (x : Record) (k : ℕ) (b : Bool) (o p : Option Entry) → In_s x k o → In_s x k p → In_s x k (cond b o p)
by_test x k true o p h g = h
by_test x k false o p h g = g

by_list : (x : Record) (k : ℕ) (b : Bool) (e : Entry) → In_s x k (Some e) → In_s x k (listed b e)
by_list x k true e h = h
by_list x k false e h = tt

type_in_s : (x : Record) (k : ℕ) (o : Option TypeKind) → In_s x k (type_by x o)
type_in_s x k None = tt
type_in_s x k (Some kind) = by_list x k _ (entry.Put (put.Type kind x.r)) (λ h. no h)

path_in_s : (x : Record) (k : ℕ) (o : Option PathKind) → In_s x k (path_by x o)
path_in_s x k None = tt
path_in_s x k (Some kind) = by_list x k _ (entry.Put (put.Path x.r x.s kind (eqb x.p 1))) (λ h. no h)

alone : (b : Bool) → (b || false) ≡ true → b ≡ true
alone true h = refl
alone false h = no h

terminal_in_s : (x : Record) (k : ℕ) (o : Option TerminalKind) → In_s x k (terminal_by x o)
terminal_in_s x k None = tt
terminal_in_s x k (Some kind) =
    by_list x k _ (entry.Node (node.Terminal kind x.r (optional x.s)))
    (cond_both (eqb x.s 4294967295) None (Some x.s) (λ o. In_s x k (Some (entry.Node (node.Terminal kind x.r o)))) (λ _ h. no h) (λ _. alone (eqb x.s k)))

opened_in_s : (x : Record) (k : ℕ) → In_s x k (opened_entry x)
opened_in_s x k =
    by_list x k _ (entry.Node (cond (eqb x.p 2) (node.Scope x.r) (node.Pruned x.r)))
    (cond_both (eqb x.p 2) (node.Scope x.r) (node.Pruned x.r) (λ n. In_s x k (Some (entry.Node n))) (λ _ h. no h) (λ _ h. no h))

open_in_s : (x : Record) (k : ℕ) → In_s x k (open_entry x)
open_in_s x k =
    by_test x k (eqb x.p 0) (terminal_entry x) (cond (eqb x.p 1) (arm_entry x) (opened_entry x))
    (terminal_in_s x k (terminal_kind_of x.q))
    (by_test x k (eqb x.p 1) (arm_entry x) (opened_entry x) (by_list x k _ (entry.Node node.Arm) (λ h. no h)) (opened_in_s x k))

plain_in_s : (x : Record) (k : ℕ) (e : Entry) → In_s x k (Some e) → In_s x k (plain_entry x e)
plain_in_s x k e h = by_list x k _ e h

in_s : (x : Record) (k : ℕ) → In_s x k (entry_of x)
unfolding entry_of
in_s x k =
    by_test x k (eqb x.tag 1) (type_entry x) _ (type_in_s x k (type_kind_of x.p))
    (by_test x k (eqb x.tag 2) (identifier_entry x) _ (by_list x k _ _ (λ h. no h))
    (by_test x k (eqb x.tag 3) (path_entry x) _ (path_in_s x k (path_kind_of x.q))
    (by_test x k (eqb x.tag 4) (scope_entry x) _ (by_list x k _ _ (λ h. no h))
    (by_test x k (eqb x.tag 5) (dependency_entry x) _ (by_list x k _ _ (λ h. no h))
    (by_test x k (eqb x.tag 6) (declaration_entry x) _ (by_list x k _ _ (λ h. no h))
    (by_test x k (eqb x.tag 7) (reassignment_entry x) _ (by_list x k _ _ (λ h. no h))
    (by_test x k (eqb x.tag 8) (read_entry x) _ (by_list x k _ _ (λ h. no h))
    (by_test x k (eqb x.tag 9) (value_entry x) _ (by_list x k _ _ (λ h. no h))
    (by_test x k (eqb x.tag 10) (add_entry x) _ (by_list x k _ (entry.Node (node.Add x.r x.s (optional x.t))) (alone (eqb x.s k)))
    (by_test x k (eqb x.tag 11) (open_entry x) _ (open_in_s x k)
    (by_test x k (eqb x.tag 12) (plain_entry x entry.Close) _ (plain_in_s x k entry.Close (λ h. no h))
    (by_test x k (eqb x.tag 14) (plain_entry x entry.List) _ (plain_in_s x k entry.List (λ h. no h))
    (by_test x k (eqb x.tag 15) (shape_entry x) None (by_list x k _ _ (λ h. no h)) tt)))))))))))))

named_in_s : (x : Record) (k : ℕ) (o : Option Entry) → In_s x k o → member k (names_in (node_by o)) ≡ true → eqb x.s k ≡ true
named_in_s x k None h m = no m
named_in_s x k (Some e) h m = h m

pub node_absent : (x : Record) (k n : ℕ) → n ≡ k → eqb x.s n ≡ false → member k (names_in (node_of x)) ≡ false
node_absent x k n e h = absent (eqb x.s k) (member k (names_in (node_of x))) (named_in_s x k (entry_of x) (in_s x k)) (ap (eqb x.s) (sym e) ∙ h)
