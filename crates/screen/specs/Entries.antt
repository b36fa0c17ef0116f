-- What a record asks for. A record whose fields break their list asks for nothing, and is refused.
use Rattle.std.specs.Prelude.{ℕ, Bool, cond, ◌&&◌, ◌||◌, Some, None, Option, ◌==◌, nat_le, nat_lt}
use Rattle.block.specs.declared.record.Record.{Record}
use Rattle.screen.specs.Values.{optional}
use Rattle.screen.specs.Kinds.{terminal_kind_of, type_kind_of, path_kind_of}
use Rattle.screen.specs.declared.kinds.TerminalKind.{TerminalKind}
use Rattle.screen.specs.declared.kinds.TypeKind.{TypeKind}
use Rattle.screen.specs.declared.kinds.PathKind.{PathKind}
use Rattle.screen.specs.declared.node.Node.{Node}
use Rattle.screen.specs.declared.node.Node.TheVariants as node
use Rattle.screen.specs.declared.entry.Entry.{Entry}
use Rattle.screen.specs.declared.entry.Entry.TheVariants as entry
use Rattle.screen.specs.declared.entry.Put.TheVariants as put
use Rattle.screen.specs.declared.entry.Part.TheVariants as part

-- an entry where its fields keep their list
abbrev pub listed : Bool → Entry → Option Entry
listed ok e = cond ok (Some e) None

-- an order is any number below none
abbrev pub order : ℕ → Bool
order n = nat_lt n 4294967295

-- the fields that a list does not name are zero
abbrev pub blank : ℕ → Bool
blank n = n == 0

-- a type, once its kind is known
abbrev pub type_by : Record → Option TypeKind → Option Entry
type_by x None = None
type_by x (Some k) = listed (blank x.q && blank x.s && blank x.t) (entry.Put (put.Type k x.r))

abbrev pub type_entry : Record → Option Entry
type_entry x = type_by x (type_kind_of x.p)

abbrev pub identifier_entry : Record → Option Entry
identifier_entry x = listed (nat_le x.r 1023 && blank x.p && blank x.q && blank x.t) (entry.Put (put.Identifier (record { declaration = x.r; typ = x.s })))

-- a path entry, once its kind is known
abbrev pub path_by : Record → Option PathKind → Option Entry
path_by x None = None
path_by x (Some k) = listed (nat_le x.p 1 && blank x.t) (entry.Put (put.Path x.r x.s k (x.p == 1)))

abbrev pub path_entry : Record → Option Entry
path_entry x = path_by x (path_kind_of x.q)

abbrev pub scope_entry : Record → Option Entry
scope_entry x = listed (order x.r && order x.s && blank x.p && blank x.q && blank x.t) (entry.Put (put.Scope x.r x.s))

-- with no path entry, the first is written as 0
abbrev pub dependency_entry : Record → Option Entry
dependency_entry x = listed ((nat_lt 0 x.q || blank x.s) && blank x.p && blank x.t) (entry.Part (part.Dependency (record { identifier = x.r; first = x.s; length = x.q })))

abbrev pub declaration_entry : Record → Option Entry
declaration_entry x = listed (blank x.p && blank x.q && blank x.t) (entry.Part (part.Declaration x.r x.s))

abbrev pub reassignment_entry : Record → Option Entry
reassignment_entry x = listed (blank x.p && blank x.q && blank x.s && blank x.t) (entry.Part (part.Reassignment x.r))

abbrev pub read_entry : Record → Option Entry
read_entry x = listed (blank x.p && blank x.q && blank x.s && blank x.t) (entry.Put (put.Read (record { identifier = x.r })))

-- the fields of a value by its kind: an instruction's reads (one for 5, 10 and 11) and store, or children and orders
abbrev pub value_listed : Record → Bool
value_listed x =
    cond (x.p == 5) (x.q == 1 && x.s == 4294967295 && blank x.t)
    (cond (nat_le x.p 9) ((nat_lt 0 x.q || blank x.r) && x.s == 4294967295 && blank x.t)
    (cond (nat_le x.p 11) (x.q == 1 && blank x.t)
    (cond (x.p == 12) (blank x.q && blank x.t)
    (cond (x.p == 13) (blank x.q)
    (cond (x.p == 15) (blank x.q && blank x.s && blank x.t)
    (nat_le x.p 16 && order x.r && blank x.q))))))

abbrev pub value_entry : Record → Option Entry
value_entry x = listed (value_listed x) (entry.Value (record { r = x.r; s = x.s; t = x.t; q = x.q; kind = x.p }))

abbrev pub add_entry : Record → Option Entry
add_entry x = listed (order x.r && blank x.p && blank x.q) (entry.Node (node.Add x.r x.s (optional x.t)))

-- a terminal, once its kind is known
abbrev pub terminal_by : Record → Option TerminalKind → Option Entry
terminal_by x None = None
terminal_by x (Some k) = listed (order x.r && blank x.t) (entry.Node (node.Terminal k x.r (optional x.s)))

abbrev pub terminal_entry : Record → Option Entry
terminal_entry x = terminal_by x (terminal_kind_of x.q)

abbrev pub arm_entry : Record → Option Entry
arm_entry x = listed (blank x.q && blank x.r && blank x.s && blank x.t) (entry.Node node.Arm)

-- p 2 opens a Scope, 3 a PrunedScope
abbrev pub opened_entry : Record → Option Entry
opened_entry x = listed (nat_le x.p 3 && blank x.q && blank x.s && blank x.t) (entry.Node (cond (x.p == 2) (node.Scope x.r) (node.Pruned x.r)))

abbrev pub open_entry : Record → Option Entry
open_entry x = cond (x.p == 0) (terminal_entry x) (cond (x.p == 1) (arm_entry x) (opened_entry x))

-- Close and List have no field
abbrev pub plain_entry : Record → Entry → Option Entry
plain_entry x e = listed (blank x.p && blank x.q && blank x.r && blank x.s && blank x.t) e

abbrev pub shape_entry : Record → Option Entry
shape_entry x = listed (nat_lt 0 x.r && blank x.p && blank x.q && blank x.s && blank x.t) (entry.Put (put.Shape (record { shape = x.r })))

-- a record by its tag; 13, Merge, is not built yet
abbrev pub entry_by : Record → Option Entry
entry_by x =
    cond (x.tag == 1) (type_entry x)
    (cond (x.tag == 2) (identifier_entry x)
    (cond (x.tag == 3) (path_entry x)
    (cond (x.tag == 4) (scope_entry x)
    (cond (x.tag == 5) (dependency_entry x)
    (cond (x.tag == 6) (declaration_entry x)
    (cond (x.tag == 7) (reassignment_entry x)
    (cond (x.tag == 8) (read_entry x)
    (cond (x.tag == 9) (value_entry x)
    (cond (x.tag == 10) (add_entry x)
    (cond (x.tag == 11) (open_entry x)
    (cond (x.tag == 12) (plain_entry x entry.Close)
    (cond (x.tag == 14) (plain_entry x entry.List)
    (cond (x.tag == 15) (shape_entry x) None)))))))))))))

-- what a record asks for (shut, so that proofs above it stay small)
unfoldable pub entry_of : Record → Option Entry
entry_of x = entry_by x

-- the node that an entry makes; all else makes none, and stands for the body
abbrev pub node_in : Entry → Node
node_in (entry.Put p) = node.Body
node_in (entry.Part p) = node.Body
node_in (entry.Value v) = node.Body
node_in (entry.Node x) = x
node_in entry.Close = node.Body
node_in entry.List = node.Body

abbrev pub node_by : Option Entry → Node
node_by None = node.Body
node_by (Some e) = node_in e

-- the node that a record made; the body's record is all zeros
abbrev pub node_of : Record → Node
node_of x = node_by (entry_of x)
