-- A well-formed sheet is well-formed after a Merge.
use Rattle.std.proofs.Common.{◌≡◌, List, [], length, arith}
use Rattle.std.proofs.lemmas.List.{append-nil, length-map}
use Rattle.screen.specs.State.{Rows}
use Rattle.screen.specs.Refused.{statuses}
use Rattle.screen.specs.WellFormed.{RowsKept}
use Rattle.screen.specs.MergeLaws.{FormedAfter}
use Rattle.screen.specs.declared.scope.Status.{Status}
use Rattle.screen.specs.Course.{scopes_from}
use Rattle.screen.proofs.Staying.{Longer, Stay, rows_stay}
use Rattle.screen.proofs.Fates.{out}
use Rattle.screen.proofs.MergeStanding.{length_statuses, standing_after}
use Rattle.screen.proofs.MergeScopes.{scopes_after_lem}

-- rows ask only how many Scopes there are
rows_kept : (w : Rows) (ss ss' : List Status) → length ss' ≡ length ss → RowsKept w ss → RowsKept w ss'
rows_kept w ss ss' many h =
    let l : Longer w ss w ss' = record { types = omega arith; identifiers = omega arith; paths = omega arith; reads = omega arith; statuses = omega arith; more = []; values = append-nil w.values } in
    let s : Stay w w ss' = rows_stay w ss w ss' l h in
    record {
      fitting = rw many h.fitting;
      types = s.types;
      identifiers = s.identifiers;
      paths = s.paths;
      dependencies = s.dependencies;
      declarations = s.declarations;
      reads = s.reads;
      values = s.values;
      levels = h.levels;
      shapes = s.shapes;
      nodes = s.nodes;
      users = h.users;
    }

pub formed_after : FormedAfter
formed_after m σ h e =
    record {
      rows = rows_kept σ.rows (statuses σ.scopes) (statuses (scopes_from (out m σ h).st 0 σ.scopes)) (omega (arith, length_statuses m σ h, length-map σ.scopes (λ s. s.status))) h.rows;
      scopes = scopes_after_lem m σ h;
      tree = standing_after m σ h e;
    }
