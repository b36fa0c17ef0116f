use Rattle.std.proofs.Common.{◌≡◌, Some, sym, ap, ◌∙◌}
use borrow.Author.Tests.{clash}
use Rattle.block.specs.Fields.{fields_of}
use Rattle.screen.specs.declared.entry.Entry.TheVariants as entry
use Rattle.screen.specs.Entries.{entry_of}
use Rattle.screen.specs.Refused.{refused_of}
use Rattle.screen.specs.Step.{after, step}
use Rattle.sheet.proofs.Taking.{entry_is, step_unread, step_refused, takes_refused, takes_listed, takes_written, long_rest}
use Rattle.sheet.proofs.sheet.Sheet.take_sound.Goals as goal

pub returns-in-Err-clause-takes : goal.returns-in-Err-clause-takes
returns-in-Err-clause-takes c σ h =
    takes_refused σ (fields_of c.args.record) _ _ c.in-Err.refusal (ap (step σ) (sym c.from-made.ensures) ∙ step_unread σ c.from-made.result c.in-Err.refusal c.in-Err.ensures) h

pub returns-in-Err-admits-clause-takes : goal.returns-in-Err-admits-clause-takes
returns-in-Err-admits-clause-takes c σ h =
    let e = c.in-Ok.entry in
    let asks : entry_of (fields_of c.args.record) ≡ Some e = ap entry_of (sym c.from-made.ensures) ∙ entry_is _ e c.in-Ok.ensures in
    takes_refused σ (fields_of c.args.record) _ _ c.in-Err-admits.refusal (step_refused σ (fields_of c.args.record) e c.in-Err-admits.refusal asks (c.in-Err-admits.ensures σ h)) h

pub returns-in-List-clause-takes : goal.returns-in-List-clause-takes
returns-in-List-clause-takes c σ h =
    let asks : entry_of (fields_of c.args.record) ≡ Some entry.List = ap entry_of (sym c.from-made.ensures) ∙ entry_is _ c.in-Ok.entry c.in-Ok.ensures ∙ ap Some c.in-List.is in
    takes_listed σ (fields_of c.args.record) _ _ _ _ asks (ap (refused_of σ) (sym c.in-List.is) ∙ c.in_default.ensures σ h) h (c.list.ensures.lines σ h)

pub returns : goal.returns
returns c =
    let e = c.in-Ok.entry in
    let asks : entry_of (fields_of c.args.record) ≡ Some e = ap entry_of (sym c.from-made.ensures) ∙ entry_is _ e c.in-Ok.ensures in
    record {
      ready = record { sound = (after c.requires.sound.0 e, c.write.ensures.holds c.requires.sound.0 c.requires.sound.1); long = record { sheet = long_rest _ _ c.write.ensures.rest c.requires.long.sheet; work = c.requires.long.work } };
      takes = λ σ h. takes_written σ (fields_of c.args.record) e _ _ asks (c.in_default.ensures σ h) c.in_default-entry.not-List (c.write.ensures.holds σ h);
      keeps = record { rest = c.write.ensures.rest; refused = λ f. absurd (clash (sym f)) };
    }
