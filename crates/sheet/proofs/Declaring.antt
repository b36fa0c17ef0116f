-- The Scopes' lists with a new declaration at the end of one.
use Rattle.std.proofs.Common.{◌≡◌, ℕ, zero, suc, ◌+◌, ◌<◌, ◌≤◌, true, false, not, eqb, ltb, ◌≢◌, ◌⊎◌, List, [], ◌∷◌, ◌++◌, length, get_or, set, sym, refl, ap, ◌∙◌, subst, inl, inr, arith, length-set}
use Rattle.std.proofs.lemmas.List.{get_or_append_left, get_or_push, length_push, get_or-set_same, get_or-set_other}
use Rattle.std.proofs.lemmas.Bool.{cases_eq, cases_Bool, and_parts, or_left, or_right, not-true, both_ways, ltb-true, lt-ltb, le-ltb, cond-true, cond-false}
use Rattle.screen.specs.Lists.{every, member, distinct, gathered}
use Rattle.screen.specs.State.{Scope}
use Rattle.screen.specs.Step.{altered, declaring}
use Rattle.screen.proofs.Members.{member_here, member_append}
use Rattle.sheet.specs.declared.rows.ScopeRow.{ScopeRow}
use Rattle.sheet.specs.declared.rows.DeclarationRow.{DeclarationRow}
use Rattle.sheet.specs.Chains.{no_scope, no_declaration, next_declaration, next_merged, Chain, ScopeHeld, Chained}
use Rattle.sheet.specs.Written.{starting_at, followed_by, new_declaration}
use Rattle.sheet.specs.Ends.{end_from, end_of}
use Rattle.sheet.proofs.Marking.{member_other}
use Rattle.sheet.proofs.Gathering.{told}
use Rattle.sheet.proofs.Parting.{every_member, every_at, distinct_at, one_part, in_gathered, in_none, few_below}
use Rattle.sheet.proofs.Holding.{blank, held_at, held_from, held_for, held_moved, set_link, altered_member}

-- the last number of a list that begins with k
abbrev last_in : ℕ → List ℕ → ℕ
last_in k [] = k
last_in k (j ∷ js) = last_in j js

-- the rows with a new one, linked after the last of the list from a
abbrev pub linked : List DeclarationRow → ℕ → ℕ → ℕ → List DeclarationRow
linked D key declared a =
    set (D ++ new_declaration key declared ∷ []) (end_of D a) (followed_by (length D) (get_or (D ++ new_declaration key declared ∷ []) (end_of D a) no_declaration))

last_member : (k : ℕ) (ks : List ℕ) → member (last_in k ks) (k ∷ ks) ≡ true
last_member k [] = member_here k k [] refl
last_member k (j ∷ js) = or_right (eqb k (last_in j js)) (member (last_in j js) (j ∷ js)) (last_member j js)

-- a walk by links comes to the last number
end_is : (D : List DeclarationRow) (fuel k : ℕ) (ks : List ℕ) → length D ≤ 1024 → Chain (next_declaration D) (next_declaration D k) ks → every (λ n. ltb n (length D)) ks ≡ true → length ks ≤ fuel → end_from fuel D k ≡ last_in k ks
end_is D zero k [] few c b l = refl
end_is D (suc fuel) k [] few c b l = cond-false (ltb (next_declaration D k) (length D)) _ k (le-ltb (next_declaration D k) (length D) (omega arith))
end_is D zero k (j ∷ js) few c b l = absurd (omega arith)
end_is D (suc fuel) k (j ∷ js) few c b l =
    let a = and_parts (ltb j (length D)) (every (λ n. ltb n (length D)) js) (b) in
    cond-true (ltb (next_declaration D k) (length D)) (end_from fuel D (next_declaration D k)) k (lt-ltb (next_declaration D k) (length D) (omega (arith, c.0, ltb-true j (length D) a.0)))
    ∙ ap (λ i. end_from fuel D i) c.0
    ∙ end_is D fuel j js few c.1 a.1 (omega arith)

-- a list that begins at none is empty
chain_none : (D : List DeclarationRow) (a : ℕ) (ks : List ℕ) → length D ≤ 1024 → a ≡ 4294967295 → every (λ n. ltb n (length D)) ks ≡ true → Chain (next_declaration D) a ks → ks ≡ []
chain_none D a [] few e b c = refl
chain_none D a (k ∷ ks) few e b c = absurd (omega (arith, c.0, ltb-true k (length D) (and_parts (ltb k (length D)) (every (λ n. ltb n (length D)) ks) b).0))

-- one number more at the end of a list, where only its last link changes
chain_also : (next next' : ℕ → ℕ) (n k : ℕ) (ks : List ℕ) → Chain next (next k) ks → distinct (k ∷ ks) ≡ true → ((m : ℕ) → member m (k ∷ ks) ≡ true → m ≢ last_in k ks → next' m ≡ next m)
    → next' (last_in k ks) ≡ n → next' n ≡ 4294967295 → Chain next' (next' k) (ks ++ n ∷ [])
chain_also next next' n k [] c d same to end = (to, end)
chain_also next next' n k (j ∷ js) c d same to end =
    let a = and_parts (not (member k (j ∷ js))) (distinct (j ∷ js)) d in
    let apart : k ≢ last_in j js = λ e. member_other (last_in j js) k (j ∷ js) (last_member j js) (not-true (member k (j ∷ js)) a.0) (sym e) in (
      same k (member_here k k (j ∷ js) refl) apart ∙ c.0,
      chain_also next next' n j js c.1 a.1 (λ m h ne. same m (or_right (eqb k m) (member m (j ∷ js)) h) ne) to end,
    )

-- a new row, n, at the end of Scope l's list
module _ (S : List ScopeRow) (D : List DeclarationRow) (ss : List Scope) (chained : Chained S D ss) (l : ℕ) (within : l < length S)
    (once : distinct (gathered (λ k. k.declares) ss) ≡ true) (put : every (λ n. ltb n (length D)) (gathered (λ k. k.declares) ss) ≡ true) (few : length D ≤ 1024) where
  many : length ss ≡ length S
  many = (told S D S ss chained.held).count

  declared_low : (i n : ℕ) → i < length ss → member n (get_or ss i blank).declares ≡ true → n < length D
  declared_low i n h m = ltb-true n (length D) (every_member (λ n. ltb n (length D)) (gathered (λ k. k.declares) ss) n put (in_gathered (λ k. k.declares) blank ss i n h m))

  -- the other Scopes' lists are as they were
  module _ (S' : List ScopeRow) (D' : List DeclarationRow) (long : length S' ≡ length S) (others : (i : ℕ) → i ≢ l → get_or S' i no_scope ≡ get_or S i no_scope)
      (links : (n : ℕ) → next_merged S' n ≡ next_merged S n) (longer : length D' ≡ length D + 1)
      (same : (m : ℕ) → m < length D → member m (get_or ss l blank).declares ≡ false → next_declaration D' m ≡ next_declaration D m)
      (here : ScopeHeld S' D' (get_or S' l no_scope) (declaring (length D) (get_or ss l blank))) where
    also_held : (i : ℕ) → i < length S → (i ≡ l) ⊎ (i ≡ l → ⊥) → ScopeHeld S' D' (get_or S' i no_scope) (get_or (altered ss l (declaring (length D))) i blank)
    also_held i h (inl e) =
        held_for S' D' (get_or S' l no_scope) _ (declaring (length D) (get_or ss l blank)) _ (ap (λ j. get_or S' j no_scope) e)
        (ap (λ j. get_or (altered ss l (declaring (length D))) j blank) e ∙ get_or-set_same ss l (declaring (length D) (get_or ss l blank)) blank (omega (arith, many))) here
    also_held i h (inr e) =
        held_for S' D' (get_or S i no_scope) _ (get_or ss i blank) _ (others i e) (get_or-set_other ss l i (declaring (length D) (get_or ss l blank)) blank e)
        (held_moved S S' D D' (get_or S i no_scope) (get_or ss i blank) (λ n m. kept n m (cases_Bool (member n (get_or ss l blank).declares))) (λ n m. links n) (held_at S D S ss chained.held i h))
      where
        kept : (n : ℕ) → member n (get_or ss i blank).declares ≡ true → (member n (get_or ss l blank).declares ≡ true) ⊎ (member n (get_or ss l blank).declares ≡ false) → next_declaration D' n ≡ next_declaration D n
        kept n m (inl t) = absurd (e (one_part (λ k. k.declares) blank ss i l n once (omega (arith, many)) (omega (arith, many)) m t))
        kept n m (inr t) = same n (declared_low i n (omega (arith, many)) m) t

    also_more : (n : ℕ) → member n (get_or ss l blank).declares ≡ true → member n (declaring (length D) (get_or ss l blank)).declares ≡ true
    also_more n h = member_append n (get_or ss l blank).declares (length D ∷ []) ∙ or_left (member n (get_or ss l blank).declares) (member n (length D ∷ [])) h

    -- the new row is in the list
    new_in : member (length D) (gathered (λ k. k.declares) (altered ss l (declaring (length D)))) ≡ true
    new_in =
        in_gathered (λ k. k.declares) blank (altered ss l (declaring (length D))) l (length D) (omega (arith, many, length-set ss l (declaring (length D) (get_or ss l blank))))
        (ap (λ s. member (length D) s.declares) (get_or-set_same ss l (declaring (length D) (get_or ss l blank)) blank (omega (arith, many)))
        ∙ member_append (length D) (get_or ss l blank).declares (length D ∷ []) ∙ or_right (member (length D) (get_or ss l blank).declares) (member (length D) (length D ∷ [])) (member_here (length D) (length D) [] refl))

    also_loose : (n : ℕ) → n < length D' → member n (gathered (λ k. k.declares) (altered ss l (declaring (length D)))) ≡ false → next_declaration D' n ≡ 4294967295
    also_loose n h out =
        let old : member n (gathered (λ k. k.declares) ss) ≡ false =
        in_none (λ k. k.declares) blank ss (altered ss l (declaring (length D))) n (altered_member ss l (declaring (length D)) (λ k. k.declares) n (also_more n)) out in
        let ne : n ≢ length D = λ e. member_other (length D) n (gathered (λ k. k.declares) (altered ss l (declaring (length D)))) new_in out (sym e) in
        same n (omega arith) (apart (cases_Bool (member n (get_or ss l blank).declares)) old) ∙ chained.loose n (omega arith) old
      where
        apart : (member n (get_or ss l blank).declares ≡ true) ⊎ (member n (get_or ss l blank).declares ≡ false) → member n (gathered (λ k. k.declares) ss) ≡ false → member n (get_or ss l blank).declares ≡ false
        apart (inl t) old = absurd (both_ways (member n (gathered (λ k. k.declares) ss)) old (in_gathered (λ k. k.declares) blank ss l n (omega (arith, many)) t))
        apart (inr t) old = t

    also_chained : Chained S' D' (altered ss l (declaring (length D)))
    also_chained =
        record {
          held = held_from S' D' S' (altered ss l (declaring (length D))) (length-set ss l (declaring (length D) (get_or ss l blank)) ∙ many ∙ sym long) (λ i h. also_held i (omega arith) (cases_eq i l));
          loose = also_loose;
          loose_merged = λ n h out.
              links n ∙ chained.loose_merged n (omega arith)
              (in_none (λ k. k.merged) blank ss (altered ss l (declaring (length D))) n (altered_member ss l (declaring (length D)) (λ k. k.merged) n (λ m. m)) out);
        }

  -- Scope l's row, and the numbers that it declares
  row_here : ScopeHeld S D (get_or S l no_scope) (get_or ss l blank)
  row_here = held_at S D S ss chained.held l within

  below_here : every (λ n. ltb n (length D)) (get_or ss l blank).declares ≡ true
  below_here = every_at (λ k. k.declares) blank (λ n. ltb n (length D)) ss l (omega (arith, many)) put

  once_here : distinct (get_or ss l blank).declares ≡ true
  once_here = distinct_at (λ k. k.declares) blank ss l (omega (arith, many)) once

  -- its list begins at a row that is put, if it has one
  pub first_within : ((get_or S l no_scope).first ≡ 4294967295 → ⊥) → (get_or S l no_scope).first < length D
  first_within ne = go (get_or ss l blank).declares row_here.declares below_here
    where
      go : (ks : List ℕ) → Chain (next_declaration D) (get_or S l no_scope).first ks → every (λ n. ltb n (length D)) ks ≡ true → (get_or S l no_scope).first < length D
      go [] c b = absurd (ne c)
      go (k ∷ ks) c b = omega (arith, c.0, ltb-true k (length D) (and_parts (ltb k (length D)) (every (λ n. ltb n (length D)) ks) b).0)

  module _ (key declared : ℕ) where
    new_next : next_declaration (D ++ new_declaration key declared ∷ []) (length D) ≡ 4294967295
    new_next = ap (λ d. d.next) (get_or_push D (new_declaration key declared) no_declaration (length D) refl)

    old_next : (m : ℕ) → m < length D → next_declaration (D ++ new_declaration key declared ∷ []) m ≡ next_declaration D m
    old_next m h = ap (λ d. d.next) (get_or_append_left D (new_declaration key declared ∷ []) no_declaration m h)

    -- the first of its list
    pub chained_first : (get_or S l no_scope).first ≡ 4294967295
        → Chained (set S l (starting_at (length D) (get_or S l no_scope))) (D ++ new_declaration key declared ∷ []) (altered ss l (declaring (length D)))
    chained_first none =
        also_chained (set S l (starting_at (length D) (get_or S l no_scope))) (D ++ new_declaration key declared ∷ []) (length-set S l (starting_at (length D) (get_or S l no_scope)))
        (λ i ne. get_or-set_other S l i (starting_at (length D) (get_or S l no_scope)) no_scope ne) links (length_push D (new_declaration key declared)) (λ m h out. old_next m h)
        (held_for (set S l (starting_at (length D) (get_or S l no_scope))) (D ++ new_declaration key declared ∷ []) (starting_at (length D) (get_or S l no_scope)) _ (declaring (length D) (get_or ss l blank)) _
        (get_or-set_same S l (starting_at (length D) (get_or S l no_scope)) no_scope within) refl
        (record {
          start_is = row_here.start_is;
          end_is = row_here.end_is;
          status_is = row_here.status_is;
          status_small = row_here.status_small;
          reassigns_is = row_here.reassigns_is;
          begin_is = row_here.begin_is;
          declares = subst (λ (ks : List ℕ). Chain (next_declaration (D ++ new_declaration key declared ∷ [])) (length D) (ks ++ length D ∷ []))
              (sym (chain_none D (get_or S l no_scope).first (get_or ss l blank).declares few none below_here row_here.declares)) (refl, new_next);
          merged = (held_moved S (set S l (starting_at (length D) (get_or S l no_scope))) D D (get_or S l no_scope) (get_or ss l blank) (λ n m. refl) (λ n m. links n) row_here).merged;
        }))
      where
        links : (n : ℕ) → next_merged (set S l (starting_at (length D) (get_or S l no_scope))) n ≡ next_merged S n
        links n = set_link S l (starting_at (length D) (get_or S l no_scope)) n refl

    -- after the last of its list
    module _ (some : (get_or S l no_scope).first ≢ 4294967295) where
      end_last : (k : ℕ) (ks : List ℕ) → Chain (next_declaration D) (get_or S l no_scope).first (k ∷ ks) → every (λ n. ltb n (length D)) (k ∷ ks) ≡ true → distinct (k ∷ ks) ≡ true → end_of D (get_or S l no_scope).first ≡ last_in k ks
      end_last k ks c b d =
          ap (λ i. end_of D i) c.0
          ∙ end_is D (length D) k ks few c.1 (and_parts (ltb k (length D)) (every (λ n. ltb n (length D)) ks) b).1 (omega (arith, few_below (length D) (k ∷ ks) b d))

      end_in : member (end_of D (get_or S l no_scope).first) (get_or ss l blank).declares ≡ true
      end_in = go (get_or ss l blank).declares row_here.declares below_here once_here
        where
          go : (ks : List ℕ) → Chain (next_declaration D) (get_or S l no_scope).first ks → every (λ n. ltb n (length D)) ks ≡ true → distinct ks ≡ true → member (end_of D (get_or S l no_scope).first) ks ≡ true
          go [] c b d = absurd (some c)
          go (k ∷ ks) c b d = ap (λ i. member i (k ∷ ks)) (end_last k ks c b d) ∙ last_member k ks

      end_within : end_of D (get_or S l no_scope).first < length D
      end_within = declared_low l (end_of D (get_or S l no_scope).first) (omega (arith, many)) end_in

      linked_old : (m : ℕ) → m < length D → m ≢ end_of D (get_or S l no_scope).first → next_declaration (linked D key declared (get_or S l no_scope).first) m ≡ next_declaration D m
      linked_old m h ne =
          ap (λ d. d.next) (get_or-set_other (D ++ new_declaration key declared ∷ []) (end_of D (get_or S l no_scope).first) m (followed_by (length D) (get_or (D ++ new_declaration key declared ∷ []) (end_of D (get_or S l no_scope).first) no_declaration)) no_declaration ne)
          ∙ old_next m h

      linked_end : next_declaration (linked D key declared (get_or S l no_scope).first) (end_of D (get_or S l no_scope).first) ≡ length D
      linked_end =
          ap (λ d. d.next) (get_or-set_same (D ++ new_declaration key declared ∷ []) (end_of D (get_or S l no_scope).first) (followed_by (length D) (get_or (D ++ new_declaration key declared ∷ []) (end_of D (get_or S l no_scope).first) no_declaration)) no_declaration
          (omega (arith, end_within, length_push D (new_declaration key declared))))

      linked_new : next_declaration (linked D key declared (get_or S l no_scope).first) (length D) ≡ 4294967295
      linked_new =
          let ne : length D ≢ end_of D (get_or S l no_scope).first = λ e. omega (arith, end_within) in
          ap (λ d. d.next) (get_or-set_other (D ++ new_declaration key declared ∷ []) (end_of D (get_or S l no_scope).first) (length D) (followed_by (length D) (get_or (D ++ new_declaration key declared ∷ []) (end_of D (get_or S l no_scope).first) no_declaration)) no_declaration ne)
          ∙ new_next

      linked_chain : Chain (next_declaration (linked D key declared (get_or S l no_scope).first)) (get_or S l no_scope).first ((get_or ss l blank).declares ++ length D ∷ [])
      linked_chain = go (get_or ss l blank).declares row_here.declares below_here once_here (λ m h. declared_low l m (omega (arith, many)) h)
        where
          go : (ks : List ℕ) → Chain (next_declaration D) (get_or S l no_scope).first ks → every (λ n. ltb n (length D)) ks ≡ true → distinct ks ≡ true → ((m : ℕ) → member m ks ≡ true → m < length D)
              → Chain (next_declaration (linked D key declared (get_or S l no_scope).first)) (get_or S l no_scope).first (ks ++ length D ∷ [])
          go [] c b d low = absurd (some c)
          go (k ∷ ks) c b d low =
              let is : end_of D (get_or S l no_scope).first ≡ last_in k ks = end_last k ks c b d in (
                c.0,
                chain_also (next_declaration D) (next_declaration (linked D key declared (get_or S l no_scope).first)) (length D) k ks c.1 d
                    (λ m h ne. linked_old m (low m h) (λ e. ne (e ∙ is)))
                    (ap (λ i. next_declaration (linked D key declared (get_or S l no_scope).first) i) (sym is) ∙ linked_end) linked_new,
              )

      pub chained_next : Chained S (linked D key declared (get_or S l no_scope).first) (altered ss l (declaring (length D)))
      chained_next =
          also_chained S (linked D key declared (get_or S l no_scope).first) refl (λ i ne. refl) (λ n. refl)
          (length-set (D ++ new_declaration key declared ∷ []) (end_of D (get_or S l no_scope).first) (followed_by (length D) (get_or (D ++ new_declaration key declared ∷ []) (end_of D (get_or S l no_scope).first) no_declaration))
          ∙ length_push D (new_declaration key declared))
          (λ m h out. linked_old m h (λ e. member_other (end_of D (get_or S l no_scope).first) m (get_or ss l blank).declares end_in out (sym e)))
          (record {
            start_is = row_here.start_is;
            end_is = row_here.end_is;
            status_is = row_here.status_is;
            status_small = row_here.status_small;
            reassigns_is = row_here.reassigns_is;
            begin_is = row_here.begin_is;
            declares = linked_chain;
            merged = row_here.merged;
          })
