-- When a Scope joins the keeper of a run, and what the join does.
use Rattle.std.specs.Prelude.{ℕ, max, Bool, true, false, cond, not, ◌&&◌, ◌||◌, List, [], ◌∷◌, Some, None, Option, ◌==◌, nat_lt}
use Rattle.screen.specs.Rules.{Dep}
use Rattle.screen.specs.Found.{Found, Need}
use Rattle.screen.specs.Course.{Course, put}

-- the list has no element
abbrev pub is_nil : {A : Type 0} → List A → Bool
is_nil [] = true
is_nil (x ∷ xs) = false

-- one of these rows declares an identifier of lasting type
abbrev pub any_lasts : Found → List ℕ → Bool
any_lasts E [] = false
any_lasts E (r ∷ rs) = (E.declared r).lasts || any_lasts E rs

-- it has no dependencies, or declares an identifier of lasting type (scope_is_eligible_for_merging)
abbrev pub eligible : Found → Course → ℕ → Bool
eligible E st s = is_nil (E.entries s) || any_lasts E (st.declares s)

-- last used before e, or never
abbrev pub before_or : Option ℕ → ℕ → Bool
before_or None e = true
before_or (Some u) e = nat_lt u e

-- each of these declarations is (are_lvalues_last_used_by_scope)
abbrev pub all_before : Found → ℕ → List ℕ → Bool
all_before E e [] = true
all_before E e (t ∷ ts) = before_or (E.last_use t) e && all_before E e ts

-- one of these rows declares d
abbrev pub declares : Found → List ℕ → ℕ → Bool
declares E [] d = false
declares E (r ∷ rs) d = (E.declared r).declaration == d || declares E rs d

-- one of them declares this source, if there is one
abbrev pub declares_source : Found → List ℕ → Option ℕ → Bool
declares_source E rs None = false
declares_source E rs (Some d) = declares E rs d

-- each dependency has an empty path and a lasting type, and its declaration or its source is declared
abbrev pub fed_by : Found → Course → List ℕ → List Need → Bool
fed_by E st rs [] = true
fed_by E st rs (d ∷ ds) =
    is_nil d.entry.path && (d.lasts && ((declares E rs d.entry.declaration || declares_source E rs (st.sources d.entry.declaration)) && fed_by E st rs ds))

-- what rows declare, as a dependency list
abbrev pub declared_as : Found → List ℕ → List Dep
declared_as E [] = []
declared_as E (r ∷ rs) = record { declaration = (E.declared r).declaration; path = [] } ∷ declared_as E rs

-- the three ways: the same lists, the keeper's declarations the same as N's list, or N fed by them
abbrev pub alike : Found → Course → ℕ → ℕ → Bool
alike E st k n =
    E.rule.same (E.entries k) (E.entries n)
    || (E.rule.same (declared_as E (st.declares k)) (E.entries n)
    || (not (is_nil (E.entries n)) && fed_by E st (st.declares k) (E.needs n)))

-- N joins keeper K behind these targets: they are tested against N's own end (can_merge_scopes)
abbrev pub joins_to : Found → Course → ℕ → List ℕ → ℕ → Bool
joins_to E st k ts n =
    not (E.reassigns k) && (not (E.reassigns n) && (all_before E (st.ends n) ts && alike E st k n))

-- the first row of an equal key gives way, else the new one is appended
abbrev pub set_row : Found → List ℕ → ℕ → List ℕ
set_row E [] r = r ∷ []
set_row E (q ∷ qs) r = cond ((E.declared q).key == (E.declared r).key) (r ∷ qs) (q ∷ set_row E qs r)

-- one row after the other
abbrev pub set_rows : Found → List ℕ → List ℕ → List ℕ
set_rows E qs [] = qs
set_rows E qs (r ∷ rs) = set_rows E (set_row E qs r) rs

-- used, and before e
abbrev pub used_before : Option ℕ → ℕ → Bool
used_before None e = false
used_before (Some u) e = nat_lt u e

-- without those last used before e (update_scope_declarations)
abbrev pub unless : Found → ℕ → List ℕ → List ℕ
unless E e [] = []
unless E e (r ∷ rs) = cond (used_before (E.last_use (E.declared r).declaration) e) (unless E e rs) (r ∷ unless E e rs)

-- keeper k takes the Scope n: the larger end, its declarations, and it is noted
abbrev pub join : Found → ℕ → ℕ → Course → Course
join E k n st =
    record {
      ends = put st.ends k (max (st.ends k) (st.ends n));
      declares = put (put st.declares k (unless E (max (st.ends k) (st.ends n)) (set_rows E (st.declares k) (st.declares n)))) n [];
      sources = st.sources;
      joins = record { keeper = k; joined = n } ∷ st.joins;
      flats = st.flats;
    }
