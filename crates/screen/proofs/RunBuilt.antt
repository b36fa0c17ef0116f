-- What is built on the tables so far is a run's step, but for a Merge.
use Rattle.std.proofs.Common.{◌≡◌, true, false, ◌&&◌, eqb, leb, None, refl, ap}
use Rattle.std.proofs.lemmas.Bool.{and_parts, eqb-true}
use Rattle.block.specs.declared.record.Record.{Record}
use Rattle.screen.specs.Entries.{entry_of, blank}
use Rattle.screen.specs.Rules.{Meaning}
use Rattle.screen.specs.State.{State}
use Rattle.screen.specs.Step.{asked, step}
use Rattle.screen.specs.Runs.{answered, is_merge, chosen, step_if, step_by}
use Rattle.screen.specs.RunLaws.{StepButMerge}

-- no other record has the tag 13
none_asked : (x : Record) → x.tag ≡ 13 → entry_of x ≡ None
unfolding entry_of
none_asked x is = rw is refl

others : (first second : Meaning) (σ : State) (x : Record) → is_merge x ≡ false → step_by first second σ x ≡ record { reply = answered (step σ x).answer; sheet = (step σ x).sheet }
others first second σ x is = ap (λ b. step_if b (chosen first second x) σ x) is

tag_is : (x : Record) → is_merge x ≡ true → x.tag ≡ 13
tag_is x is =
    let a = eqb x.tag 13 in
    let b = and_parts (a && leb x.p 1 && blank x.q && blank x.r && blank x.s) (blank x.t) is in
    let c = and_parts (a && leb x.p 1 && blank x.q && blank x.r) (blank x.s) b.0 in
    let d = and_parts (a && leb x.p 1 && blank x.q) (blank x.r) c.0 in
    let e = and_parts (a && leb x.p 1) (blank x.q) d.0 in
    eqb-true x.tag 13 (and_parts a (leb x.p 1) e.0).0

pub step_but_merge : StepButMerge
step_but_merge =
    record {
      others = others;
      merges = λ σ x is. ap (asked σ) (none_asked x (tag_is x is));
    }
