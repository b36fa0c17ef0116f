use Rattle.std.proofs.Common.{◌≡◌, true, false, sym, refl, ap, ◌∙◌}
use Rattle.screen.specs.Refused.{misplaced, crowded, top_of}
use Rattle.sheet.specs.Tables.{memory}
use Rattle.sheet.proofs.Refusing.{refused_held}
use Rattle.sheet.proofs.sheet.Sheet.admits.Goals as goal

pub returns-then-not-named : goal.returns-then-not-named
returns-then-not-named c σ h =
    let e = c.args.entry.now in
    refused_held (memory c.args.self.now) σ e h false _ _ _ _ _ (sym c.named.ensures ∙ c.if-not-named.true) refl refl refl refl refl

pub returns-then-used : goal.returns-then-used
returns-then-used c σ h =
    let e = c.args.entry.now in
    refused_held (memory c.args.self.now) σ e h true true _ _ _ _ (sym c.named.ensures ∙ c.if-not-named.false) (sym c.used.ensures ∙ c.if-used.true) refl refl refl refl

pub returns-then-no_room : goal.returns-then-no_room
returns-then-no_room c σ h =
    let e = c.args.entry.now in
    refused_held (memory c.args.self.now) σ e h true false false true _ _ (sym c.named.ensures ∙ c.if-not-named.false) (sym c.used.ensures ∙ c.if-used.false) (sym c.deep.ensures ∙ c.if-deep.false) (sym c.no_room.ensures ∙ c.if-no_room.true) refl refl

pub returns-then-is_misplaced : goal.returns-then-is_misplaced
returns-then-is_misplaced c σ h =
    let e = c.args.entry.now in
    let i = c.innermost-top.ensures σ h in
    let place : misplaced (top_of σ) σ.opened e ≡ true = ap (λ t. misplaced t σ.opened e) (sym i.1) ∙ ap (λ o. misplaced c.innermost-top.result.node o e) (sym i.0) ∙ sym c.is_misplaced.ensures ∙ c.if-is_misplaced.true in
    refused_held (memory c.args.self.now) σ e h true false false false true _ (sym c.named.ensures ∙ c.if-not-named.false) (sym c.used.ensures ∙ c.if-used.false) (sym c.deep.ensures ∙ c.if-deep.false) (sym c.no_room.ensures ∙ c.if-no_room.false) place refl

pub returns-then-is_crowded : goal.returns-then-is_crowded
returns-then-is_crowded c σ h =
    let e = c.args.entry.now in
    let i = c.innermost-top.ensures σ h in
    let place : misplaced (top_of σ) σ.opened e ≡ false = ap (λ t. misplaced t σ.opened e) (sym i.1) ∙ ap (λ o. misplaced c.innermost-top.result.node o e) (sym i.0) ∙ sym c.is_misplaced.ensures ∙ c.if-is_misplaced.false in
    let crowd : crowded σ.opened e ≡ true = ap (λ o. crowded o e) (sym i.0) ∙ sym c.is_crowded.ensures ∙ c.if-is_crowded.true in
    refused_held (memory c.args.self.now) σ e h true false false false false true (sym c.named.ensures ∙ c.if-not-named.false) (sym c.used.ensures ∙ c.if-used.false) (sym c.deep.ensures ∙ c.if-deep.false) (sym c.no_room.ensures ∙ c.if-no_room.false) place crowd

pub returns : goal.returns
returns c σ h =
    let e = c.args.entry.now in
    let i = c.innermost-top.ensures σ h in
    let place : misplaced (top_of σ) σ.opened e ≡ false = ap (λ t. misplaced t σ.opened e) (sym i.1) ∙ ap (λ o. misplaced c.innermost-top.result.node o e) (sym i.0) ∙ sym c.is_misplaced.ensures ∙ c.if-is_misplaced.false in
    let crowd : crowded σ.opened e ≡ false = ap (λ o. crowded o e) (sym i.0) ∙ sym c.is_crowded.ensures ∙ c.if-is_crowded.false in
    refused_held (memory c.args.self.now) σ e h true false false false false false (sym c.named.ensures ∙ c.if-not-named.false) (sym c.used.ensures ∙ c.if-used.false) (sym c.deep.ensures ∙ c.if-deep.false) (sym c.no_room.ensures ∙ c.if-no_room.false) place crowd
