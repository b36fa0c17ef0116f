-- A new sheet in memory that is long enough.
use Rattle.std.proofs.Common.{◌≡◌, ◌<◌, List, [], ◌∷◌, length, sym, refl, ap, ◌∙◌, subst, arith, length-set}
use Rattle.std.proofs.lemmas.List.{take_more_set, drop-set-lt}
use Rattle.screen.specs.State.{new, new_rows}
use Rattle.screen.specs.Step.{with_nodes}
use Rattle.screen.specs.Forest.{bare, same}
use Rattle.screen.specs.Standing.{Standing}
use Rattle.screen.specs.declared.node.Node.{Node}
use Rattle.screen.proofs.Counts.{same_self}
use Rattle.screen.proofs.Forming.{formed_new}
use Rattle.sheet.specs.declared.rows.NodeRow.{NodeRow}
use Rattle.sheet.specs.Tables.{Memory, items}
use Rattle.sheet.specs.Planted.{Planted, nodes_of}
use Rattle.sheet.specs.Holds.{RecordsListed, Holds}
use Rattle.sheet.specs.Kept.{RestKept}
use Rattle.sheet.specs.Written.{body_row, cleared}
use Rattle.sheet.proofs.NodeRowing.{body_made}

-- the body alone
planted_body : Planted (body_row ∷ []) [] 0 bare 0
planted_body =
    record {
      links = (record { within = omega arith; made_is = body_made; parent_is = refl; first_is = refl; last_is = refl; next_is = refl }, tt, tt);
      idle = λ k l z. absurd (omega (arith, same_self 0, ap (λ j. same j 0) (let e : k ≡ 0 = omega arith in e)));
      standing = subst (λ (x : Node). Standing (x ∷ []) [] bare 0) (sym body_made) formed_new.tree;
      innermost_is = refl;
    }

pub holds_new : (m : Memory) → 0 < length m.nodes.rows → Holds (cleared m) new
holds_new m l =
    let one : items (cleared m).nodes ≡ body_row ∷ [] = take_more_set m.nodes.rows 0 body_row l in
    record {
      counts =
          record {
            types = omega arith;
            identifiers = omega arith;
            paths = omega arith;
            scopes = omega arith;
            dependencies = omega arith;
            declarations = omega arith;
            reads = omega arith;
            values = omega arith;
            shapes = omega arith;
            nodes = omega (arith, length-set m.nodes.rows 0 body_row);
          };
      rows = ap (with_nodes new_rows) (ap nodes_of one ∙ ap (λ x. x ∷ []) body_made);
      chained = record { held = tt; loose = λ n h _. absurd (omega arith); loose_merged = λ n h _. absurd (omega arith) };
      records = subst (λ (xs : List NodeRow). RecordsListed xs) (sym one) (refl, refl);
      planted = subst (λ (xs : List NodeRow). Planted xs [] 0 bare 0) (sym one) planted_body;
      formed = formed_new;
    }

pub rest_new : (m : Memory) → 0 < length m.nodes.rows → RestKept m (cleared m)
rest_new m l =
    record {
      types = record { rows = refl; length_is = refl };
      identifiers = record { rows = refl; length_is = refl };
      paths = record { rows = refl; length_is = refl };
      scopes = record { rows = refl; length_is = refl };
      dependencies = record { rows = refl; length_is = refl };
      declarations = record { rows = refl; length_is = refl };
      reads = record { rows = refl; length_is = refl };
      values = record { rows = refl; length_is = refl };
      shapes = record { rows = refl; length_is = refl };
      nodes = record { rows = drop-set-lt 1 m.nodes.rows 0 body_row (omega arith); length_is = length-set m.nodes.rows 0 body_row };
    }
