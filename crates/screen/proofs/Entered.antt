-- What the fields of an entry keep, and that the record of a row asks for that row.
use Rattle.std.proofs.Common.{◌≡◌, ℕ, Bool, true, false, cond, ◌&&◌, ◌||◌, eqb, ltb, leb, Some, None, Option, refl, ap, subst}
use Rattle.std.proofs.lemmas.Bool.{and_parts}
use Rattle.block.specs.declared.record.Record.{Record}
use Rattle.screen.specs.Entries.{listed, order, blank, value_listed, type_by, path_by, terminal_by, type_entry, identifier_entry, path_entry, scope_entry, dependency_entry, declaration_entry, reassignment_entry, read_entry, value_entry, add_entry, terminal_entry, arm_entry, opened_entry, open_entry, plain_entry, shape_entry, entry_by, entry_of}
use Rattle.screen.specs.Kinds.{type_kind_of, path_kind_of, terminal_kind_of}
use Rattle.screen.specs.declared.kinds.TypeKind.{TypeKind}
use Rattle.screen.specs.declared.kinds.TypeKind.TheVariants as type
use Rattle.screen.specs.declared.kinds.PathKind.{PathKind}
use Rattle.screen.specs.declared.kinds.PathKind.TheVariants as path
use Rattle.screen.specs.declared.kinds.TerminalKind.{TerminalKind}
use Rattle.screen.specs.Records.{type_row, path_row, type_record, identifier_record, path_record, dependency_record, declaration_record, read_record, value_record, shape_record}
use Rattle.screen.specs.WellFormed.{node_listed}
use Rattle.screen.specs.declared.node.Node.TheVariants as node
use Rattle.screen.specs.declared.rows.IdentifierRow.{IdentifierRow}
use Rattle.screen.specs.declared.rows.DependencyRow.{DependencyRow}
use Rattle.screen.specs.declared.rows.ReadRow.{ReadRow}
use Rattle.screen.specs.declared.rows.ValueRow.{ValueRow}
use Rattle.screen.specs.declared.rows.ShapeRow.{ShapeRow}
use Rattle.screen.specs.declared.entry.Entry.{Entry}
use Rattle.screen.specs.declared.entry.Entry.TheVariants as entry
use Rattle.screen.specs.declared.entry.Put.{Put}
use Rattle.screen.specs.declared.entry.Put.TheVariants as put
use Rattle.screen.specs.declared.entry.Part.{Part}
use Rattle.screen.specs.declared.entry.Part.TheVariants as part

abbrev put_keeps : Put → Bool
put_keeps (put.Type k s) = true
put_keeps (put.Identifier i) = leb i.declaration 1023
put_keeps (put.Path l h k o) = true
put_keeps (put.Scope a z) = order a && order z
put_keeps (put.Read r) = true
put_keeps (put.Shape s) = ltb 0 s.shape

abbrev part_keeps : Part → Bool
part_keeps (part.Dependency d) = ltb 0 d.length || blank d.first
part_keeps (part.Declaration k d) = true
part_keeps (part.Reassignment i) = true

-- what its record's list asks of an entry's fields
abbrev pub keeps : Entry → Bool
keeps (entry.Put p) = put_keeps p
keeps (entry.Part p) = part_keeps p
keeps (entry.Value v) = value_listed (value_record v)
keeps (entry.Node x) = node_listed x
keeps entry.Close = true
keeps entry.List = true

-- what a record asks for, if anything, keeps its list
abbrev Keeps : Option Entry → Type 0
Keeps None = Unit {0}
Keeps (Some e) = keeps e ≡ true

by_test : (b : Bool) (x y : Option Entry) → Keeps x → Keeps y → Keeps (cond b x y)
by_test true x y h k = h
by_test false x y h k = k

by_list : (b : Bool) (e : Entry) → (b ≡ true → keeps e ≡ true) → Keeps (listed b e)
by_list true e h = h refl
by_list false e h = tt

-- the first of some tests
first_of_3 : (a b c : Bool) → (a && b && c) ≡ true → a ≡ true
first_of_3 a b c h = (and_parts a b (and_parts (a && b) c h).0).0

first_of_4 : (a b c d : Bool) → (a && b && c && d) ≡ true → a ≡ true
first_of_4 a b c d h = first_of_3 a b c (and_parts (a && b && c) d h).0

first_of_5 : (a b c d e : Bool) → (a && b && c && d && e) ≡ true → a ≡ true
first_of_5 a b c d e h = first_of_4 a b c d (and_parts (a && b && c && d) e h).0

opened_keeps : (b : Bool) (k : ℕ) → node_listed (cond b (node.Scope k) (node.Pruned k)) ≡ true
opened_keeps true k = refl
opened_keeps false k = refl

plain_keeps : (x : Record) (e : Entry) → keeps e ≡ true → Keeps (plain_entry x e)
plain_keeps x e h = by_list (blank x.p && blank x.q && blank x.r && blank x.s && blank x.t) e (λ _. h)

type_keeps : (x : Record) (k : Option TypeKind) → Keeps (type_by x k)
type_keeps x None = tt
type_keeps x (Some k) = by_list (blank x.q && blank x.s && blank x.t) _ (λ _. refl)

path_keeps : (x : Record) (k : Option PathKind) → Keeps (path_by x k)
path_keeps x None = tt
path_keeps x (Some k) = by_list (leb x.p 1 && blank x.t) _ (λ _. refl)

terminal_keeps : (x : Record) (k : Option TerminalKind) → Keeps (terminal_by x k)
terminal_keeps x None = tt
terminal_keeps x (Some k) = by_list (order x.r && blank x.t) _ (λ h. (and_parts (order x.r) (blank x.t) h).0)

open_keeps : (x : Record) → Keeps (open_entry x)
open_keeps x =
    by_test (eqb x.p 0) (terminal_entry x) (cond (eqb x.p 1) (arm_entry x) (opened_entry x))
    (terminal_keeps x (terminal_kind_of x.q))
    (by_test (eqb x.p 1) (arm_entry x) (opened_entry x)
    (by_list (blank x.q && blank x.r && blank x.s && blank x.t) _ (λ _. refl))
    (by_list (leb x.p 3 && blank x.q && blank x.s && blank x.t) _ (λ _. opened_keeps (eqb x.p 2) x.r)))

by_keeps : (x : Record) → Keeps (entry_by x)
by_keeps x =
    by_test (eqb x.tag 1) (type_entry x) _
    (type_keeps x (type_kind_of x.p))
    (by_test (eqb x.tag 2) (identifier_entry x) _
    (by_list _ _ (first_of_4 (leb x.r 1023) (blank x.p) (blank x.q) (blank x.t)))
    (by_test (eqb x.tag 3) (path_entry x) _
    (path_keeps x (path_kind_of x.q))
    (by_test (eqb x.tag 4) (scope_entry x) _
    (by_list _ _ (first_of_4 (order x.r && order x.s) (blank x.p) (blank x.q) (blank x.t)))
    (by_test (eqb x.tag 5) (dependency_entry x) _
    (by_list _ _ (first_of_3 (ltb 0 x.q || blank x.s) (blank x.p) (blank x.t)))
    (by_test (eqb x.tag 6) (declaration_entry x) _ (by_list _ _ (λ _. refl))
    (by_test (eqb x.tag 7) (reassignment_entry x) _ (by_list _ _ (λ _. refl))
    (by_test (eqb x.tag 8) (read_entry x) _ (by_list _ _ (λ _. refl))
    (by_test (eqb x.tag 9) (value_entry x) _ (by_list (value_listed x) _ (λ h. h))
    (by_test (eqb x.tag 10) (add_entry x) _
    (by_list _ _ (first_of_3 (order x.r) (blank x.p) (blank x.q)))
    (by_test (eqb x.tag 11) (open_entry x) _ (open_keeps x)
    (by_test (eqb x.tag 12) (plain_entry x entry.Close) _ (plain_keeps x entry.Close refl)
    (by_test (eqb x.tag 14) (plain_entry x entry.List) _ (plain_keeps x entry.List refl)
    (by_test (eqb x.tag 15) (shape_entry x) None
    (by_list _ _ (first_of_5 (ltb 0 x.r) (blank x.p) (blank x.q) (blank x.s) (blank x.t))) tt)))))))))))))

-- an entry that a record asks for keeps its list
pub entered : (x : Record) (e : Entry) → entry_of x ≡ Some e → keeps e ≡ true
unfolding entry_of
entered x e h = subst Keeps h (by_keeps x)

-- a row that keeps its list is what its record asks for
pub type_entered : (k : TypeKind) (s : ℕ) → entry_of (type_record (type_row k s)) ≡ Some (entry.Put (put.Type k s))
unfolding entry_of
type_entered type.Primitive s = refl
type_entered type.Function s = refl
type_entered type.Object s = refl
type_entered type.Var s = refl
type_entered type.Poly s = refl
type_entered type.Phi s = refl
type_entered type.Property s = refl
type_entered type.ObjectMethod s = refl

pub identifier_entered : (i : IdentifierRow) → leb i.declaration 1023 ≡ true → entry_of (identifier_record i) ≡ Some (entry.Put (put.Identifier i))
unfolding entry_of
identifier_entered i h = ap (λ b. listed (b && true && true && true) (entry.Put (put.Identifier i))) h

pub path_entered : (l h : ℕ) (k : PathKind) (o : Bool) → entry_of (path_record (path_row l h k o)) ≡ Some (entry.Put (put.Path l h k o))
unfolding entry_of
path_entered l h path.Name false = refl
path_entered l h path.Name true = refl
path_entered l h path.Number false = refl
path_entered l h path.Number true = refl

pub dependency_entered : (d : DependencyRow) → (ltb 0 d.length || blank d.first) ≡ true → entry_of (dependency_record d) ≡ Some (entry.Part (part.Dependency d))
unfolding entry_of
dependency_entered d h = ap (λ b. listed (b && true && true) (entry.Part (part.Dependency d))) h

pub declaration_entered : (k d : ℕ) → entry_of (declaration_record k d) ≡ Some (entry.Part (part.Declaration k d))
unfolding entry_of
declaration_entered k d = refl

pub read_entered : (r : ReadRow) → entry_of (read_record r) ≡ Some (entry.Put (put.Read r))
unfolding entry_of
read_entered r = refl

pub value_entered : (v : ValueRow) → value_listed (value_record v) ≡ true → entry_of (value_record v) ≡ Some (entry.Value v)
unfolding entry_of
value_entered v h = ap (λ b. listed b (entry.Value v)) h

pub shape_entered : (s : ShapeRow) → ltb 0 s.shape ≡ true → entry_of (shape_record s) ≡ Some (entry.Put (put.Shape s))
unfolding entry_of
shape_entered s h = ap (λ b. listed (b && true && true && true && true) (entry.Put (put.Shape s))) h
