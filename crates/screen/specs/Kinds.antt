-- The kinds of terminals, types and path entries, and their numbers in a record.
use Rattle.std.specs.Prelude.{ℕ, cond, Some, None, Option, ◌==◌}
use Rattle.screen.specs.declared.kinds.TerminalKind.{TerminalKind}
use Rattle.screen.specs.declared.kinds.TerminalKind.TheVariants as terminal
use Rattle.screen.specs.declared.kinds.TypeKind.{TypeKind}
use Rattle.screen.specs.declared.kinds.TypeKind.TheVariants as type
use Rattle.screen.specs.declared.kinds.PathKind.{PathKind}
use Rattle.screen.specs.declared.kinds.PathKind.TheVariants as path

abbrev pub terminal_number : TerminalKind → ℕ
terminal_number terminal.Break = 0
terminal_number terminal.Continue = 1
terminal_number terminal.Return = 2
terminal_number terminal.Throw = 3
terminal_number terminal.Switch = 4
terminal_number terminal.DoWhile = 5
terminal_number terminal.While = 6
terminal_number terminal.For = 7
terminal_number terminal.ForOf = 8
terminal_number terminal.ForIn = 9
terminal_number terminal.If = 10
terminal_number terminal.Label = 11
terminal_number terminal.Try = 12

-- the kind that a number stands for, if any
abbrev pub terminal_kind_of : ℕ → Option TerminalKind
terminal_kind_of n =
    cond (n == 0) (Some terminal.Break)
    (cond (n == 1) (Some terminal.Continue)
    (cond (n == 2) (Some terminal.Return)
    (cond (n == 3) (Some terminal.Throw)
    (cond (n == 4) (Some terminal.Switch)
    (cond (n == 5) (Some terminal.DoWhile)
    (cond (n == 6) (Some terminal.While)
    (cond (n == 7) (Some terminal.For)
    (cond (n == 8) (Some terminal.ForOf)
    (cond (n == 9) (Some terminal.ForIn)
    (cond (n == 10) (Some terminal.If)
    (cond (n == 11) (Some terminal.Label)
    (cond (n == 12) (Some terminal.Try) None))))))))))))

abbrev pub type_number : TypeKind → ℕ
type_number type.Primitive = 0
type_number type.Function = 1
type_number type.Object = 2
type_number type.Var = 3
type_number type.Poly = 4
type_number type.Phi = 5
type_number type.Property = 6
type_number type.ObjectMethod = 7

abbrev pub type_kind_of : ℕ → Option TypeKind
type_kind_of n =
    cond (n == 0) (Some type.Primitive)
    (cond (n == 1) (Some type.Function)
    (cond (n == 2) (Some type.Object)
    (cond (n == 3) (Some type.Var)
    (cond (n == 4) (Some type.Poly)
    (cond (n == 5) (Some type.Phi)
    (cond (n == 6) (Some type.Property)
    (cond (n == 7) (Some type.ObjectMethod) None)))))))

abbrev pub path_number : PathKind → ℕ
path_number path.Name = 0
path_number path.Number = 1

abbrev pub path_kind_of : ℕ → Option PathKind
path_kind_of n = cond (n == 0) (Some path.Name) (cond (n == 1) (Some path.Number) None)
