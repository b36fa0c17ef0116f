-- A walk that tests links: what it has seen is a part of a tree, and of every tree that the rows hold it has the rest before it.
use Rattle.std.proofs.Common.{◌≡◌, ℕ, zero, suc, ◌+◌, ◌-◌, ◌<◌, ◌≤◌, true, ◌≢◌, List, length, sym, refl, ap, ◌∙◌, subst, arith}
use Rattle.std.proofs.lemmas.Bool.{and_parts, and_from}
use Rattle.std.proofs.lemmas.Bool.Decides.{nat_tests}
use Rattle.screen.specs.declared.node.Node.{Node}
use Rattle.screen.specs.declared.node.Node.TheVariants.{Body}
use Rattle.screen.specs.Entries.{node_of}
use Rattle.screen.specs.Forest.{Forest, bare, tree, ◌⊕◌, size, is_add, shallow, body}
use Rattle.sheet.specs.declared.rows.NodeRow.{NodeRow}
use Rattle.sheet.specs.declared.sound.walk.Seat.{Seat}
use Rattle.sheet.specs.Links.{row, head_of, last_from, last_of, At, Links}
use Rattle.sheet.specs.Seats.{roomy, Fit, entered, returned}
use Rattle.sheet.proofs.Apart.{distinct}
use Rattle.sheet.proofs.Sums.{size_fits}

-- Levels.

-- each node has room under a holder of level d
abbrev pub Low : ℕ → Forest → Type 0
Low d bare = Unit {0}
Low d (tree n x cs ss) = (roomy d x ≡ true) × Low (d + 1) cs × Low d ss

low_shallow : (d r : ℕ) (f : Forest) → r ≡ 63 - d → Low d f → shallow r f ≡ true
low_shallow d r bare e h = refl
low_shallow d zero (tree n x cs ss) e h =
    let a : is_add x ≡ true = grind (arith, nat_tests, h.0) in
    and_from _ _ (and_from _ _ a (low_shallow (d + 1) zero cs (omega arith) h.1)) (low_shallow d zero ss e h.2)
low_shallow d (suc r) (tree n x cs ss) e h =
    and_from _ _ (low_shallow (d + 1) r cs (omega arith) h.1) (low_shallow d (suc r) ss e h.2)

shallow_low : (d r : ℕ) (f : Forest) → r ≡ 63 - d → shallow r f ≡ true → Low d f
shallow_low d r bare e h = tt
shallow_low d zero (tree n x cs ss) e h =
    let a = and_parts _ _ h in
    let b = and_parts _ _ a.0 in
    let c : is_add x ≡ true = b.0 in
    (grind (arith, nat_tests), shallow_low (d + 1) zero cs (omega arith) b.1, shallow_low d zero ss e a.1)
shallow_low d (suc r) (tree n x cs ss) e h =
    let a = and_parts _ _ h in
    (grind (arith, nat_tests), shallow_low (d + 1) r cs (omega arith) a.0, shallow_low d (suc r) ss e a.1)

low_join : (d : ℕ) (f : Forest) (n : ℕ) (x : Node) (cs : Forest) → Low d f → roomy d x ≡ true → Low (d + 1) cs → Low d (f ⊕ tree n x cs bare)
low_join d bare n x cs h a c = (a, c, tt)
low_join d (tree m y ds ts) n x cs h a c = (h.0, h.1, low_join d ts n x cs h.2 a c)

size_join : (f : Forest) (n : ℕ) (x : Node) (cs : Forest) → size (f ⊕ tree n x cs bare) ≡ size f + 1 + size cs
size_join bare n x cs = omega arith
size_join (tree m y ds ts) n x cs = omega (arith, size_join ts n x cs)

last_join : (d : ℕ) (f : Forest) (n : ℕ) (x : Node) (cs : Forest) → last_from d (f ⊕ tree n x cs bare) ≡ n
last_join d bare n x cs = refl
last_join d (tree m y ds ts) n x cs = last_join m ts n x cs

-- What was seen.

-- the siblings f under p, from the link a to the link b
abbrev pub Seg : List NodeRow → ℕ → Forest → ℕ → ℕ → Type 0
Seg rows p bare a b = a ≡ b
Seg rows p (tree n x cs ss) a b = (a ≡ n) × At rows n x p (head_of cs) (last_of cs) (row rows n).next × Links rows n cs × Seg rows p ss (row rows n).next b

-- the way to a node, and the earlier siblings of each node on it
pub data Back : Type 0 where
  base : Back
  below : Back → Forest → ℕ → Back

abbrev pub foot : Back → ℕ
foot base = 0
foot (below w v n) = n

abbrev pub depth : Back → ℕ
depth base = 0
depth (below w v n) = depth w + 1

-- how many nodes the walk entered on its way
abbrev pub mass : Back → ℕ
mass base = 0
mass (below w v n) = 1 + size v + mass w

pub record Came (rows : List NodeRow) (w : Back) (v : Forest) (n : ℕ) : Type 0 where
  pub within : n < length rows
  pub parent_is : (row rows n).parent ≡ foot w
  pub room : roomy (depth w) (node_of (row rows n).made) ≡ true
  pub seg : Seg rows (foot w) v (row rows (foot w)).first n
  pub low : Low (depth w) v

abbrev pub Ups : List NodeRow → Back → Type 0
Ups rows base = (0 < length rows) × (node_of (row rows 0).made ≡ Body) × ((row rows 0).parent ≡ 4294967295) × ((row rows 0).next ≡ 4294967295)
Ups rows (below w v n) = Came rows w v n × Ups rows w

pub record Seen (rows : List NodeRow) (a : Seat) : Type 0 where
  pub way : Back
  pub kids : Forest
  pub ups : Ups rows way
  pub seg : Seg rows (foot way) kids (row rows (foot way)).first a.child
  pub node_is : a.node ≡ foot way
  pub prev_is : a.prev ≡ last_of kids
  pub level_is : a.level ≡ depth way
  pub low : Low (depth way) kids
  pub count_is : 1 + size kids + mass way + a.left ≡ length rows

-- What is to come.

pub data Trail : Type 0 where
  start : Trail
  under : Trail → ℕ → Forest → Trail

abbrev pub heel : Trail → ℕ
heel start = 0
heel (under w n s) = n

abbrev pub deep : Trail → ℕ
deep start = 0
deep (under w n s) = deep w + 1

abbrev pub size_trail : Trail → ℕ
size_trail start = 0
size_trail (under w n s) = size s + size_trail w

pub record Step (rows : List NodeRow) (w : Trail) (n : ℕ) (s : Forest) : Type 0 where
  pub parent_is : (row rows n).parent ≡ heel w
  pub next_is : (row rows n).next ≡ head_of s
  pub last_is : (row rows (heel w)).last ≡ last_from n s
  pub links : Links rows (heel w) s
  pub low : Low (deep w) s

abbrev pub Trails : List NodeRow → Trail → Type 0
Trails rows start = Unit {0}
Trails rows (under w n s) = Step rows w n s × Trails rows w

pub record Coming (rows : List NodeRow) (a : Seat) : Type 0 where
  pub way : Trail
  pub rest : Forest
  pub trails : Trails rows way
  pub links : Links rows (heel way) rest
  pub node_is : a.node ≡ heel way
  pub child_is : a.child ≡ head_of rest
  pub last_is : (row rows (heel way)).last ≡ last_from a.prev rest
  pub level_is : a.level ≡ deep way
  pub low : Low (deep way) rest
  pub room : size rest + size_trail way ≤ a.left

-- the rows hold the tree f, of right levels
abbrev pub Grown : List NodeRow → Forest → Type 0
Grown rows f = Links rows 4294967295 (body f) × (shallow 63 f ≡ true)

module _ (rows : List NodeRow) (few : length rows ≤ 1024) where
  closes : (p : ℕ) (f : Forest) (a b : ℕ) → Seg rows p f a b → b ≡ 4294967295 → Links rows p f × (a ≡ head_of f)
  closes p bare a b h e = (tt, h ∙ e)
  closes p (tree n x cs ss) a b h e =
      let r = closes p ss (row rows n).next b h.3 e in
      ((subst (λ (y : ℕ). At rows n x p (head_of cs) (last_of cs) y) r.1 h.1, h.2, r.0), h.0)

  snoc : (p : ℕ) (f : Forest) (a n b : ℕ) (x : Node) (cs : Forest) → Seg rows p f a n → At rows n x p (head_of cs) (last_of cs) (row rows n).next → Links rows n cs → (row rows n).next ≡ b → Seg rows p (f ⊕ tree n x cs bare) a b
  snoc p bare a n b x cs h k l e = (h, k, l, e)
  snoc p (tree m y ds ts) a n b x cs h k l e = (h.0, h.1, h.2, snoc p ts (row rows m).next n b x cs h.3 k l e)

  foot_within : (w : Back) → Ups rows w → (foot w < length rows) × ((row rows 0).parent ≡ 4294967295) × (depth w ≤ mass w)
  foot_within base u = (u.0, u.2, omega arith)
  foot_within (below w v n) u =
      let r = foot_within w u.1 in
      (u.0.within, r.1, omega arith)

  pub seen_first : (l : ℕ) → 0 < length rows → l + 1 ≡ length rows → node_of (row rows 0).made ≡ Body → (row rows 0).parent ≡ 4294967295 → (row rows 0).next ≡ 4294967295
      → Seen rows (record { node = 0; child = (row rows 0).first; prev = 4294967295; level = 0; left = l })
  seen_first l n c b p x =
      record { way = base; kids = bare; ups = (n, b, p, x); seg = refl; node_is = refl; prev_is = refl; level_is = refl; low = tt; count_is = omega arith }

  pub seen_in : (a : Seat) → Seen rows a → Fit rows a → a.child ≢ 4294967295 → Seen rows (entered rows a)
  seen_in a h t ne =
      let g = t.enters ne in
      record {
        way = below h.way h.kids a.child;
        kids = bare;
        ups = (
          record {
            within = g.within;
            parent_is = g.parent_is ∙ h.node_is;
            room = subst (λ (d : ℕ). roomy d (node_of (row rows a.child).made) ≡ true) h.level_is g.room;
            seg = h.seg;
            low = h.low;
          },
          h.ups,
        );
        seg = refl;
        node_is = refl;
        prev_is = refl;
        level_is = ap (λ x. x + 1) h.level_is;
        low = tt;
        count_is = omega (arith, h.count_is, g.left);
      }

  pub seen_out : (a : Seat) → Seen rows a → Fit rows a → a.child ≡ 4294967295 → a.node ≢ 0 → Seen rows (returned rows a)
  seen_out a h t e ne = go h.way h.kids h.ups h.seg h.node_is h.prev_is h.level_is h.low h.count_is
    where
      go : (w : Back) (v : Forest) → Ups rows w → Seg rows (foot w) v (row rows (foot w)).first a.child → a.node ≡ foot w → a.prev ≡ last_of v → a.level ≡ depth w → Low (depth w) v → 1 + size v + mass w + a.left ≡ length rows → Seen rows (returned rows a)
      go base v u s i p l k m = absurd (ne i)
      go (below w v' n) v u s i p l k m =
          let c = u.0 in
          let x = node_of (row rows n).made in
          let r = closes n v (row rows n).first a.child s e in
          let here : At rows n x (foot w) (head_of v) (last_of v) (row rows n).next =
          record { within = c.within; made_is = refl; parent_is = c.parent_is; first_is = r.1; last_is = ap (λ y. (row rows y).last) (sym i) ∙ t.last_is e ∙ p; next_is = refl } in
          record {
            way = w;
            kids = v' ⊕ tree n x v bare;
            ups = u.1;
            seg =
                subst (λ (y : ℕ). Seg rows (foot w) (v' ⊕ tree n x v bare) (row rows (foot w)).first (row rows y).next) (sym i)
                (snoc (foot w) v' (row rows (foot w)).first n (row rows n).next x v c.seg here r.0 refl);
            node_is = ap (λ y. (row rows y).parent) i ∙ c.parent_is;
            prev_is = i ∙ sym (last_join 4294967295 v' n x v);
            level_is = omega (arith, l);
            low = low_join (depth w) v' n x v c.low c.room k;
            count_is = omega (arith, size_join v' n x v);
          }

  -- the walk is back at the body, and has seen the whole tree
  pub seen_all : (a : Seat) → Seen rows a → Fit rows a → a.child ≡ 4294967295 → a.node ≡ 0 → (f : Forest) × Grown rows f × (size (body f) + a.left ≡ length rows)
  seen_all a h t e z = go h.way h.kids h.ups h.seg h.node_is h.prev_is h.low h.count_is
    where
      go : (w : Back) (v : Forest) → Ups rows w → Seg rows (foot w) v (row rows (foot w)).first a.child → a.node ≡ foot w → a.prev ≡ last_of v → Low (depth w) v → 1 + size v + mass w + a.left ≡ length rows → (f : Forest) × Grown rows f × (size (body f) + a.left ≡ length rows)
      go (below w v' n) v u s i p k m =
          let b = foot_within w u.1 in
          absurd (omega (arith, b.0, b.1, u.0.parent_is, ap (λ y. (row rows y).parent) (sym i ∙ z)))
      go base v u s i p k m =
          let r = closes 0 v (row rows 0).first a.child s e in
          let links : Links rows 4294967295 (body v) =
          (record { within = u.0; made_is = u.1; parent_is = u.2; first_is = r.1; last_is = ap (λ y. (row rows y).last) (sym z) ∙ t.last_is e ∙ p; next_is = u.3 }, r.0, tt) in
          (v, (links, low_shallow 0 63 v refl k), omega arith)

  -- the numbers of a place
  pub seen_within : (a : Seat) → Seen rows a → (a.node < length rows) × (a.node ≢ 0 → 0 < a.level) × (a.level + a.left ≤ 1024)
  seen_within a h =
      let b = foot_within h.way h.ups in
      (omega (arith, h.node_is, b.0), go h.way h.node_is h.level_is, omega (arith, h.level_is, b.2, h.count_is))
    where
      go : (w : Back) → a.node ≡ foot w → a.level ≡ depth w → a.node ≢ 0 → 0 < a.level
      go base i l ne = absurd (ne i)
      go (below w v n) i l ne = omega arith

  pub coming_first : (l : ℕ) (f : Forest) → Grown rows f → length rows ≤ l + 1
      → Coming rows (record { node = 0; child = (row rows 0).first; prev = 4294967295; level = 0; left = l })
  coming_first l f h n =
      record {
        way = start;
        rest = f;
        trails = tt;
        links = h.0.1;
        node_is = refl;
        child_is = h.0.0.first_is;
        last_is = h.0.0.last_is;
        level_is = refl;
        low = shallow_low 0 63 f refl h.1;
        room = omega (arith, size_fits rows 4294967295 (body f) h.0 (distinct rows few f h.0));
      }

  pub coming_fits : (a : Seat) → Coming rows a → Fit rows a
  coming_fits a h = go h.way h.rest h.links h.node_is h.child_is h.last_is h.level_is h.low h.room
    where
      go : (w : Trail) (s : Forest) → Links rows (heel w) s → a.node ≡ heel w → a.child ≡ head_of s → (row rows (heel w)).last ≡ last_from a.prev s → a.level ≡ deep w → Low (deep w) s → size s + size_trail w ≤ a.left → Fit rows a
      go w bare k i c l d e r = record { enters = λ ne. absurd (ne c); last_is = λ _. ap (λ y. (row rows y).last) i ∙ l }
      go w (tree n x cs ss) k i c l d e r =
          record {
            enters = λ _. record {
              within = omega (arith, k.0.within);
              parent_is = ap (λ y. (row rows y).parent) c ∙ k.0.parent_is ∙ sym i;
              room =
                  ap (λ y. roomy y (node_of (row rows a.child).made)) d ∙ ap (λ y. roomy (deep w) (node_of (row rows y).made)) c ∙ ap (roomy (deep w)) k.0.made_is ∙ e.0;
              left = omega arith;
            };
            last_is = λ z. absurd (omega (arith, k.0.within));
          }

  pub coming_in : (a : Seat) → Coming rows a → a.child ≢ 4294967295 → Coming rows (entered rows a)
  coming_in a h ne = go h.way h.rest h.trails h.links h.node_is h.child_is h.last_is h.level_is h.low h.room
    where
      go : (w : Trail) (s : Forest) → Trails rows w → Links rows (heel w) s → a.node ≡ heel w → a.child ≡ head_of s → (row rows (heel w)).last ≡ last_from a.prev s → a.level ≡ deep w → Low (deep w) s → size s + size_trail w ≤ a.left → Coming rows (entered rows a)
      go w bare t k i c l d e r = absurd (ne c)
      go w (tree n x cs ss) t k i c l d e r =
          record {
            way = under w n ss;
            rest = cs;
            trails = (record { parent_is = k.0.parent_is; next_is = k.0.next_is; last_is = l; links = k.2; low = e.2 }, t);
            links = k.1;
            node_is = c;
            child_is = ap (λ y. (row rows y).first) c ∙ k.0.first_is;
            last_is = k.0.last_is;
            level_is = ap (λ y. y + 1) d;
            low = e.1;
            room = omega arith;
          }

  pub coming_out : (a : Seat) → Coming rows a → a.child ≡ 4294967295 → a.node ≢ 0 → Coming rows (returned rows a)
  coming_out a h e ne = go h.way h.rest h.trails h.links h.node_is h.child_is h.level_is h.room
    where
      go : (w : Trail) (s : Forest) → Trails rows w → Links rows (heel w) s → a.node ≡ heel w → a.child ≡ head_of s → a.level ≡ deep w → size s + size_trail w ≤ a.left → Coming rows (returned rows a)
      go w (tree n x cs ss) t k i c d r = absurd (omega (arith, k.0.within))
      go start bare t k i c d r = absurd (ne i)
      go (under w n s) bare t k i c d r =
          let p = t.0 in
          record {
            way = w;
            rest = s;
            trails = t.1;
            links = p.links;
            node_is = ap (λ y. (row rows y).parent) i ∙ p.parent_is;
            child_is = ap (λ y. (row rows y).next) i ∙ p.next_is;
            last_is = p.last_is ∙ ap (λ y. last_from y s) (sym i);
            level_is = omega arith;
            low = p.low;
            room = omega arith;
          }
