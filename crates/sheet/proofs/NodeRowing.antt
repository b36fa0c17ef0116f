-- The node rows, each by itself: the body's record, and the test over the rest.
use Rattle.std.proofs.Common.{◌≡◌, Bool, true, ◌&&◌, List, [], ◌∷◌, drop, Decides, sym, refl, ap, ◌∙◌, subst}
use Rattle.std.proofs.lemmas.Bool.{and_parts, and_from}
use Rattle.screen.specs.Lists.{every}
use Rattle.screen.specs.Entries.{entry_of, node_of}
use Rattle.screen.specs.Named.{node_named}
use Rattle.screen.specs.WellFormed.{is_listed, node_listed, nodes_kept}
use Rattle.screen.specs.declared.node.Node.TheVariants.{Body}
use Rattle.screen.specs.declared.rows.IdentifierRow.{IdentifierRow}
use Rattle.screen.specs.declared.rows.ValueRow.{ValueRow}
use Rattle.screen.specs.declared.scope.Status.{Status}
use Rattle.screen.proofs.Members.{every_map, every_both}
use Rattle.sheet.specs.declared.rows.NodeRow.{NodeRow}
use Rattle.sheet.specs.Links.{no_record}
use Rattle.sheet.specs.Planted.{nodes_of}
use Rattle.sheet.specs.NodeRows.{node_row_kept, NodesKept}

pub body_made : node_of no_record ≡ Body
unfolding entry_of
body_made = refl

module _ (is : List IdentifierRow) (vs : List ValueRow) (ss : List Status) where
  rest_is : (rs : List NodeRow) → every (node_row_kept is vs ss) rs ≡ (every (λ n. is_listed (entry_of n.made)) rs && every (λ x. node_listed x && node_named is vs ss x) (nodes_of rs))
  rest_is rs =
      every_both (λ n. is_listed (entry_of n.made)) (λ n. node_listed (node_of n.made) && node_named is vs ss (node_of n.made)) rs
      ∙ ap (λ b. every (λ n. is_listed (entry_of n.made)) rs && b) (sym (every_map (λ x. node_listed x && node_named is vs ss x) (λ n. node_of n.made) rs))

  pub kept_rest : (rows : List NodeRow) → NodesKept is vs ss rows → every (node_row_kept is vs ss) (drop 1 rows) ≡ true
  kept_rest [] k = refl
  kept_rest (r ∷ rs) k =
      rest_is rs
      ∙ and_from (every (λ n. is_listed (entry_of n.made)) rs) (every (λ x. node_listed x && node_named is vs ss x) (nodes_of rs)) k.records.1
      (ap (λ x. nodes_kept is vs ss (x ∷ nodes_of rs)) (sym (ap node_of k.records.0 ∙ body_made)) ∙ k.nodes)

  -- the body's row, and what a test of the others answered
  pub kept_from : (rows : List NodeRow) (r : NodeRow) (rs : List NodeRow) (b : Bool) → rows ≡ r ∷ rs → r.made ≡ no_record → b ≡ every (node_row_kept is vs ss) rs → Decides b (NodesKept is vs ss rows)
  kept_from rows r rs b e m t =
      subst (λ (xs : List NodeRow). Decides b (NodesKept is vs ss xs)) (sym e) (
        λ h.
            let p = and_parts (every (λ n. is_listed (entry_of n.made)) rs) (every (λ x. node_listed x && node_named is vs ss x) (nodes_of rs)) (sym (t ∙ rest_is rs) ∙ h) in
            record { records = (m, p.0); nodes = ap (λ x. nodes_kept is vs ss (x ∷ nodes_of rs)) (ap node_of m ∙ body_made) ∙ p.1 },
        λ k. t ∙ kept_rest (r ∷ rs) k,
      )
