-- What is true of a sheet's tree stays true: with a new node, with one node less open, with a new Scope.
use Rattle.std.proofs.Common.{◌≡◌, ℕ, zero, suc, ◌+◌, ◌-◌, ◌<◌, ◌≤◌, Bool, true, false, cond, ◌⊎◌, List, [], ◌∷◌, ◌++◌, length, get_or, set, sym, refl, ap, ◌∙◌, inl, inr, add-one, sub-one, arith, length-set, get_or-set_other, get_or-set_same}
use Rattle.std.proofs.lemmas.List.{get_or_append_left, get_or_push, get_or_past, length_push}
use Rattle.std.proofs.lemmas.Bool.{cases_eq, cases_lt, true≢false, false≢true}
use Rattle.screen.specs.declared.node.Node.{Node}
use Rattle.screen.specs.declared.node.Node.TheVariants.{Body, Add, Terminal, Arm, Scope, Pruned}
use Rattle.screen.specs.declared.scope.Status.{Status}
use Rattle.screen.specs.declared.scope.Status.TheVariants.{Unused, Standing as Stood}
use Rattle.screen.specs.Statuses.{is_gone, is_standing}
use Rattle.screen.specs.Forest.{Forest, same, cnt, body, is_add, can_hold}
use Rattle.screen.specs.Open.{opens, innermost, grow}
use Rattle.screen.specs.Standing.{reached, opening, openings, Standing}
use Rattle.screen.proofs.Counts.{same_self, same_other, labelled_past}
use Rattle.screen.proofs.Grown.{grow_cnt, grow_openings, grow_held, grow_shallow, grow_opens, grow_opens_more, grow_labelled, opens_less}

-- whether Open made it of a Scope
abbrev pub is_scope : Node → Bool
is_scope Body = false
is_scope (Add o v t) = false
is_scope (Terminal k o v) = false
is_scope Arm = false
is_scope (Scope k) = true
is_scope (Pruned k) = false

reached_most : (ss : List Status) (x : Node) → reached ss x ≤ 1
reached_most ss Body = omega arith
reached_most ss (Add o v t) = omega arith
reached_most ss (Terminal k o v) = omega arith
reached_most ss Arm = omega arith
reached_most ss (Scope k) = grind arith
reached_most ss (Pruned k) = omega arith

plain_opening : (x : Node) (k : ℕ) → is_scope x ≡ false → opening k x ≡ 0
plain_opening Body k h = refl
plain_opening (Add o v t) k h = refl
plain_opening (Terminal j o v) k h = refl
plain_opening Arm k h = refl
plain_opening (Scope j) k h = absurd (true≢false h)
plain_opening (Pruned j) k h = refl

pub plain_reached : (ss : List Status) (x : Node) → is_scope x ≡ false → reached ss x ≡ 1
plain_reached ss Body h = refl
plain_reached ss (Add o v t) h = refl
plain_reached ss (Terminal j o v) h = refl
plain_reached ss Arm h = refl
plain_reached ss (Scope j) h = absurd (true≢false h)
plain_reached ss (Pruned j) h = refl

add_plain : (x : Node) → is_add x ≡ true → is_scope x ≡ false
add_plain Body h = refl
add_plain (Add o v t) h = refl
add_plain (Terminal j o v) h = refl
add_plain Arm h = refl
add_plain (Scope j) h = absurd (false≢true h)
add_plain (Pruned j) h = refl

-- what is asked of a status alone, alike for Unused and Standing, stays when an unused Scope comes to stand
pub stood_alike : {A : Type 0} (q : Status → A) (ss : List Status) (k j : ℕ) → q Stood ≡ q Unused → k < length ss → get_or ss k Unused ≡ Unused → q (get_or (set ss k Stood) j Unused) ≡ q (get_or ss j Unused)
stood_alike q ss k j alike l u = go (cases_eq j k)
  where
    go : (j ≡ k) ⊎ (j ≡ k → ⊥) → q (get_or (set ss k Stood) j Unused) ≡ q (get_or ss j Unused)
    go (inl e) = rw (e, get_or-set_same ss k Stood Unused l, u) alike
    go (inr e) = ap q (get_or-set_other ss k j Stood Unused e)

stood_reached : (ss : List Status) (k : ℕ) → k < length ss → get_or ss k Unused ≡ Unused → (y : Node) → reached (set ss k Stood) y ≡ reached ss y
stood_reached ss k l u Body = refl
stood_reached ss k l u (Add o v t) = refl
stood_reached ss k l u (Terminal j o v) = refl
stood_reached ss k l u Arm = refl
stood_reached ss k l u (Scope j) = ap (λ b. cond b 0 1) (stood_alike is_gone ss k j refl l u)
stood_reached ss k l u (Pruned j) = refl

-- each node is in the tree once at most
pub standing_once : (nodes : List Node) (ss : List Status) (f : Forest) (o : ℕ) → Standing nodes ss f o → (k : ℕ) → cnt k (body f) ≤ 1
standing_once nodes ss f o h k = go (cases_lt k (length nodes))
  where
    go : (k < length nodes) ⊎ (length nodes ≤ k) → cnt k (body f) ≤ 1
    go (inl l) = omega (arith, h.once k l, reached_most ss (get_or nodes k Body))
    go (inr l) = omega (arith, labelled_past nodes (body f) k h.labelled l)

-- a new node x, of number n
module _ (nodes : List Node) (ss : List Status) (f : Forest) (o : ℕ) (s : Standing nodes ss f o)
    (n : ℕ) (x : Node) (many : length nodes ≡ n) (holds : can_hold (innermost (record { number = 0; node = Body }) o f).node x ≡ true) where
  -- what the tree is, where the Scopes then stand as ss' and o' nodes are open
  grown : (ss' : List Status) (o' : ℕ) → reached ss' x ≡ 1 → ((y : Node) → reached ss' y ≡ reached ss y)
      → ((k : ℕ) → k < length ss' → opening k x + openings k f ≡ cond (is_standing (get_or ss' k Unused)) 1 0)
      → (is_add x ≡ true) ⊎ (o < 63) → opens o' (grow o n x f) ≡ true → o' ≤ 63
      → Standing (nodes ++ x ∷ []) ss' (grow o n x f) o'
  grown ss' o' one old stands level last few =
      record {
        labelled = grow_labelled nodes (suc o) n x (body f) many s.labelled;
        once = λ k l. go k l (cases_lt k n);
        stands = λ k l. grow_openings k o n x f s.last ∙ stands k l;
        holds = grow_held (record { number = 0; node = Body }) o n x f s.last holds s.holds;
        levels = grow_shallow 63 o n x f s.last s.few level s.levels;
        last = last;
        few = few;
      }
    where
      counted : (k : ℕ) → cnt k (body (grow o n x f)) ≡ same k n + cnt k (body f)
      counted k = grow_cnt k (suc o) n x (body f) s.last

      go : (k : ℕ) → k < length (nodes ++ x ∷ []) → (k < n) ⊎ (n ≤ k) → cnt k (body (grow o n x f)) ≡ reached ss' (get_or (nodes ++ x ∷ []) k Body)
      go k l (inl m) =
          let here : get_or (nodes ++ x ∷ []) k Body ≡ get_or nodes k Body = get_or_append_left nodes (x ∷ []) Body k (omega arith) in
          omega (arith, counted k, same_other k n (λ e. omega arith), s.once k (omega arith), old (get_or nodes k Body), ap (λ y. reached ss' y) here)
      go k l (inr m) =
          let e : k ≡ n = omega (arith, length_push nodes x) in
          let here : get_or (nodes ++ x ∷ []) k Body ≡ x = get_or_push nodes x Body k (omega arith) in
          omega (arith, counted k, ap (λ i. same i n) e, same_self n, labelled_past nodes (body f) k s.labelled (omega arith), one, ap (λ y. reached ss' y) here)

  -- an Add's node is closed at once
  pub standing_add : is_add x ≡ true → Standing (nodes ++ x ∷ []) ss (grow o n x f) o
  standing_add add =
      let plain : is_scope x ≡ false = add_plain x add in
      grown ss o (plain_reached ss x plain) (λ y. refl) (λ k l. omega (arith, plain_opening x k plain, s.stands k l)) (inl add) (grow_opens o n x f s.last) s.few

  -- a Terminal, an Arm or a PrunedScope is open then
  pub standing_open : is_add x ≡ false → is_scope x ≡ false → o < 63 → Standing (nodes ++ x ∷ []) ss (grow o n x f) (o + 1)
  standing_open other plain few =
      rw add-one
      (grown ss (suc o) (plain_reached ss x plain) (λ y. refl) (λ k l. omega (arith, plain_opening x k plain, s.stands k l)) (inr few) (grow_opens_more o n x f other s.last) few)

-- so is an unused Scope, which stands then
pub standing_scope : (nodes : List Node) (ss : List Status) (f : Forest) (o : ℕ) → Standing nodes ss f o
    → (n k : ℕ) → length nodes ≡ n → can_hold (innermost (record { number = 0; node = Body }) o f).node (Scope k) ≡ true → k < length ss → get_or ss k Unused ≡ Unused → o < 63
    → Standing (nodes ++ Scope k ∷ []) (set ss k Stood) (grow o n (Scope k) f) (o + 1)
standing_scope nodes ss f o s n k many holds l unused few =
    rw add-one
    (grown nodes ss f o s n (Scope k) many holds (set ss k Stood) (suc o)
    (ap (λ t. cond (is_gone t) 0 1) (get_or-set_same ss k Stood Unused l)) (stood_reached ss k l unused)
    (λ j m. stands j m (cases_eq j k)) (inr few) (grow_opens_more o n (Scope k) f refl s.last) few)
  where
    stands : (j : ℕ) → j < length (set ss k Stood) → (j ≡ k) ⊎ (j ≡ k → ⊥) → opening j (Scope k) + openings j f ≡ cond (is_standing (get_or (set ss k Stood) j Unused)) 1 0
    stands j m (inl e) =
        let was : openings k f ≡ 0 = s.stands k l ∙ ap (λ t. cond (is_standing t) 1 0) unused in
        rw e (omega (arith, same_self k, ap (λ t. cond {A = ℕ} (is_standing t) 1 0) (get_or-set_same ss k Stood Unused l)))
    stands j m (inr e) =
        let was = s.stands j (omega (arith, length-set ss k Stood)) in
        omega (arith, same_other j k e, ap (λ t. cond {A = ℕ} (is_standing t) 1 0) (get_or-set_other ss k j Stood Unused e))

-- one node less is open
pub standing_less : (nodes : List Node) (ss : List Status) (f : Forest) (o : ℕ) → Standing nodes ss f (suc o) → Standing nodes ss f o
standing_less nodes ss f o s =
    record {
      labelled = s.labelled;
      once = s.once;
      stands = s.stands;
      holds = s.holds;
      levels = s.levels;
      last = opens_less o f s.last;
      few = omega (arith, s.few);
    }

pub standing_closed : (nodes : List Node) (ss : List Status) (f : Forest) (o : ℕ) → Standing nodes ss f o → Standing nodes ss f (o - 1)
standing_closed nodes ss f zero s = s
standing_closed nodes ss f (suc o) s = rw sub-one (standing_less nodes ss f o s)

-- a Scope past the last is as unused as a new one
unused_more : (ss : List Status) (k : ℕ) → get_or (ss ++ Unused ∷ []) k Unused ≡ get_or ss k Unused
unused_more [] zero = refl
unused_more [] (suc k) = refl
unused_more (x ∷ ss) zero = refl
unused_more (x ∷ ss) (suc k) = unused_more ss k

more_reached : (ss : List Status) (y : Node) → reached (ss ++ Unused ∷ []) y ≡ reached ss y
more_reached ss Body = refl
more_reached ss (Add o v t) = refl
more_reached ss (Terminal j o v) = refl
more_reached ss Arm = refl
more_reached ss (Scope j) = ap (λ t. cond (is_gone t) 0 1) (unused_more ss j)
more_reached ss (Pruned j) = refl

-- a new Scope, which no node opened
pub standing_fresh : (nodes : List Node) (ss : List Status) (f : Forest) (o : ℕ) → Standing nodes ss f o → openings (length ss) f ≡ 0 → Standing nodes (ss ++ Unused ∷ []) f o
standing_fresh nodes ss f o s none =
    record {
      labelled = s.labelled;
      once = λ k l. s.once k l ∙ sym (more_reached ss (get_or nodes k Body));
      stands = λ k l. go k l (cases_lt k (length ss)) ∙ sym (ap (λ t. cond {A = ℕ} (is_standing t) 1 0) (unused_more ss k));
      holds = s.holds;
      levels = s.levels;
      last = s.last;
      few = s.few;
    }
  where
    go : (k : ℕ) → k < length (ss ++ Unused ∷ []) → (k < length ss) ⊎ (length ss ≤ k) → openings k f ≡ cond (is_standing (get_or ss k Unused)) 1 0
    go k l (inl m) = s.stands k m
    go k l (inr m) =
        let e : k ≡ length ss = omega (arith, length_push ss Unused) in
        ap (λ i. openings i f) e ∙ none ∙ sym (ap (λ t. cond {A = ℕ} (is_standing t) 1 0) (get_or_past ss k Unused m))
