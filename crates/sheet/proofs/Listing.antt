-- The walk that lists a tree.
use Rattle.std.proofs.Common.{◌≡◌, ℕ, ◌+◌, ◌-◌, ◌<◌, ◌≤◌, true, ◌≢◌, ◌⊎◌, List, [], ◌∷◌, ◌++◌, length, take, drop, set, sym, refl, ap, ◌∙◌, subst, inl, inr, append_assoc, arith, length-set}
use Rattle.std.proofs.lemmas.List.{take_more_set, drop-set-lt, take-append-drop, append-nil, length-take-le, drop-drop}
use Rattle.std.proofs.lemmas.Bool.{cases_eq, cases_lt, ltb-true}
use Rattle.screen.specs.declared.answer.Line.{Line}
use Rattle.screen.specs.declared.node.Node.{Node}
use Rattle.screen.specs.declared.node.Node.TheVariants.{Body, Add, Terminal, Arm, Scope, Pruned}
use Rattle.screen.specs.declared.rows.IdentifierRow.{IdentifierRow}
use Rattle.screen.specs.declared.rows.ValueRow.{ValueRow}
use Rattle.screen.specs.declared.scope.Status.{Status}
use Rattle.screen.specs.Entries.{node_of}
use Rattle.screen.specs.Named.{node_named}
use Rattle.screen.specs.Forest.{Forest, bare, tree, same, cnt, size, body}
use Rattle.screen.specs.Standing.{opening, openings}
use Rattle.screen.specs.Lines.{line_of, lines_of}
use Rattle.sheet.specs.declared.rows.NodeRow.{NodeRow}
use Rattle.sheet.specs.Links.{row, head_of, Links}
use Rattle.sheet.specs.Listed.{ScopeBelow}
use Rattle.screen.proofs.Counts.{same_self, same_other, apart}
use Rattle.sheet.proofs.Frames.{determined}
use Rattle.sheet.proofs.Sums.{size_fits}

-- each Scope that a node of the forest opened is one of m
abbrev pub Named : ℕ → Forest → Type 0
Named m f = (k : ℕ) → 0 < openings k f → k < m

-- the tree f below the body is in the rows, each node once, and its Scopes are among m
pub record Rooted (rows : List NodeRow) (m : ℕ) (f : Forest) : Type 0 where
  pub few : length rows ≤ 1024
  pub links : Links rows 4294967295 (body f)
  pub once : (k : ℕ) → cnt k (body f) ≤ 1
  pub named : Named m f

-- the way to a node, and the later siblings of each node on it
pub data Trail : Type 0 where
  base : Trail
  under : Trail → ℕ → Forest → Trail

abbrev foot : Trail → ℕ
foot base = 0
foot (under w n s) = n

abbrev depth : Trail → ℕ
depth base = 0
depth (under w n s) = depth w + 1

-- the lines after those of the node's children
abbrev to_come : List ℕ → Trail → List Line
to_come ends base = []
to_come ends (under w n s) = lines_of ends (depth w + 1) s ++ to_come ends w

abbrev size_trail : Trail → ℕ
size_trail base = 0
size_trail (under w n s) = size s + size_trail w

-- a node on the way, with the later siblings s
record Step (rows : List NodeRow) (m : ℕ) (w : Trail) (n : ℕ) (s : Forest) : Type 0 where
  within : n < length rows
  parent_is : (row rows n).parent ≡ foot w
  next_is : (row rows n).next ≡ head_of s
  not_root : n ≢ 0
  links : Links rows (foot w) s
  rootless : cnt 0 s ≡ 0
  named : Named m s

abbrev Trails : List NodeRow → ℕ → Trail → Type 0
Trails rows m base = Unit {0}
Trails rows m (under w n s) = Step rows m w n s × Trails rows m w

-- n lines are written; the children s of the node at the foot of the way w are to come, then what the way leaves
record Listing (rows : List NodeRow) (ends : List ℕ) (m : ℕ) (old lines : List Line) (f : Forest) (w : Trail) (s : Forest) (node child level n : ℕ) : Type 0 where
  few : length rows ≤ 1024
  trails : Trails rows m w
  links : Links rows (foot w) s
  rootless : cnt 0 s ≡ 0
  named : Named m s
  node_is : node ≡ foot w
  child_is : child ≡ head_of s
  level_is : level ≡ depth w
  shown : take n lines ++ (lines_of ends (depth w + 1) s ++ to_come ends w) ≡ lines_of ends 1 f
  kept : drop n lines ≡ drop n old
  long : length lines ≡ length old
  wide : 1024 ≤ length old
  room : n + size s + size_trail w ≤ 1024
  deep : depth w ≤ n

pub record Went (rows : List NodeRow) (ends : List ℕ) (m : ℕ) (old lines : List Line) (f : Forest) (node child level n : ℕ) : Type 0 where
  way : Trail
  rest : Forest
  listing : Listing rows ends m old lines f way rest node child level n

-- a node that names only what is put names one of the Scopes
pub named_below : (is : List IdentifierRow) (vs : List ValueRow) (ss : List Status) (x : Node) → node_named is vs ss x ≡ true → ScopeBelow (length ss) x
named_below is vs ss Body h = tt
named_below is vs ss (Add o v t) h = tt
named_below is vs ss (Terminal k o v) h = tt
named_below is vs ss Arm h = tt
named_below is vs ss (Scope k) h = ltb-true k (length ss) h
named_below is vs ss (Pruned k) h = tt

-- the Scopes of a forest are among m where those of all rows are
pub named_by_rows : (rows : List NodeRow) (p m : ℕ) (f : Forest) → Links rows p f → ((n : ℕ) → n < length rows → ScopeBelow m (node_of (row rows n).made)) → Named m f
named_by_rows rows p m bare h r = λ k i. absurd (omega arith)
named_by_rows rows p m (tree n x cs ss) h r =
    let here : ScopeBelow m x = subst (λ (y : Node). ScopeBelow m y) h.0.made_is (r n h.0.within) in
    let inner : Named m cs = named_by_rows rows n m cs h.1 r in
    let later : Named m ss = named_by_rows rows p m ss h.2 r in
    λ k i. go k (cases_lt 0 (openings k cs)) (cases_lt 0 (openings k ss)) i here inner later
  where
    opened : (k : ℕ) (y : Node) → ScopeBelow m y → 0 < opening k y → k < m
    opened k Body b i = absurd (omega arith)
    opened k (Add o v t) b i = absurd (omega arith)
    opened k (Terminal j o v) b i = absurd (omega arith)
    opened k Arm b i = absurd (omega arith)
    opened k (Scope j) b i = elim (cases_eq k j) [ inl e ↦ omega arith | inr e ↦ absurd (omega (arith, same_other k j e)) ]
    opened k (Pruned j) b i = absurd (omega arith)

    go : (k : ℕ) → (0 < openings k cs) ⊎ (openings k cs ≤ 0) → (0 < openings k ss) ⊎ (openings k ss ≤ 0) → 0 < openings k (tree n x cs ss) → ScopeBelow m x → Named m cs → Named m ss → k < m
    go k (inl a) b i here inner later = inner k a
    go k (inr a) (inl b) i here inner later = later k b
    go k (inr a) (inr b) i here inner later = opened k x here (omega arith)

-- the Scope of the first node is named
head_named : (m n : ℕ) (x : Node) (cs ss : Forest) → Named m (tree n x cs ss) → ScopeBelow m x
head_named m n Body cs ss h = tt
head_named m n (Add o v t) cs ss h = tt
head_named m n (Terminal k o v) cs ss h = tt
head_named m n Arm cs ss h = tt
head_named m n (Scope k) cs ss h = h k (omega (arith, same_self k))
head_named m n (Pruned k) cs ss h = tt

module _ (rows : List NodeRow) (ends : List ℕ) (m : ℕ) (old : List Line) (f : Forest) where
  pub starts : 1024 ≤ length old → Rooted rows m f → Went rows ends m old old f 0 (row rows 0).first 0 0
  starts wide h =
      record {
        way = base;
        rest = f;
        listing = record {
          few = h.few;
          trails = tt;
          links = h.links.1;
          rootless = omega (arith, h.once 0, same_self 0);
          named = h.named;
          node_is = refl;
          child_is = h.links.0.first_is;
          level_is = refl;
          shown = append-nil (lines_of ends 1 f);
          kept = refl;
          long = refl;
          wide = wide;
          room = omega (arith, size_fits rows 4294967295 (body f) h.links h.once, h.few);
          deep = omega arith;
        };
      }

module _ (rows : List NodeRow) (ends : List ℕ) (m : ℕ) (old lines : List Line) (f : Forest) (node child level n : ℕ) (went : Went rows ends m old lines f node child level n) where
  pub enters : child ≢ 4294967295
      → Went rows ends m old (set lines n (line_of ends (level + 1) child (node_of (row rows child).made))) f child (row rows child).first (level + 1) (n + 1)
  enters ne = go went.way went.rest went.listing
    where
      go : (w : Trail) (s : Forest) → Listing rows ends m old lines f w s node child level n
          → Went rows ends m old (set lines n (line_of ends (level + 1) child (node_of (row rows child).made))) f child (row rows child).first (level + 1) (n + 1)
      go w bare h = absurd (ne h.child_is)
      go w (tree c x cs ss) h =
          let a = h.links.0 in
          let new : Line = line_of ends (level + 1) child (node_of (row rows child).made) in
          let is : new ≡ line_of ends (depth w + 1) c x =
          ap (λ i. line_of ends (level + 1) i (node_of (row rows i).made)) h.child_is ∙ ap (λ i. line_of ends (i + 1) c (node_of (row rows c).made)) h.level_is ∙ ap (λ y. line_of ends (depth w + 1) c y) a.made_is in
          let inner : List Line = lines_of ends (depth w + 1 + 1) cs in
          let later : List Line = lines_of ends (depth w + 1) ss in
          let l : n < length lines = omega (arith, h.long, h.room, h.wide) in
          let z : same 0 c ≡ 0 = omega (arith, h.rootless) in
          record {
            way = under w c ss;
            rest = cs;
            listing = record {
              few = h.few;
              trails = (
                record {
                  within = a.within;
                  parent_is = a.parent_is;
                  next_is = a.next_is;
                  not_root = λ e. apart 0 c z (sym e);
                  links = h.links.2;
                  rootless = omega (arith, h.rootless);
                  named = λ k i. h.named k (omega arith);
                },
                h.trails,
              );
              links = h.links.1;
              rootless = omega (arith, h.rootless);
              named = λ k i. h.named k (omega arith);
              node_is = h.child_is;
              child_is = ap (λ i. (row rows i).first) h.child_is ∙ a.first_is;
              level_is = ap (λ i. i + 1) h.level_is;
              shown =
                  ap (λ t. t ++ (inner ++ (later ++ to_come ends w))) (take_more_set lines n new l)
                  ∙ append_assoc (take n lines) (new ∷ []) (inner ++ (later ++ to_come ends w))
                  ∙ ap (λ y. take n lines ++ (y ∷ (inner ++ (later ++ to_come ends w)))) is
                  ∙ ap (λ t. take n lines ++ (line_of ends (depth w + 1) c x ∷ t)) (sym (append_assoc inner later (to_come ends w)))
                  ∙ h.shown;
              kept = drop-set-lt (n + 1) lines n new (omega arith) ∙ sym (drop-drop 1 n lines) ∙ ap (λ t. drop 1 t) h.kept ∙ drop-drop 1 n old;
              long = length-set lines n new ∙ h.long;
              wide = h.wide;
              room = omega (arith, h.room);
              deep = omega (arith, h.deep);
            };
          }

  pub climbs : child ≡ 4294967295 → node ≢ 0 → Went rows ends m old lines f (row rows node).parent (row rows node).next (level - 1) n
  climbs e ne = go went.way went.rest went.listing
    where
      go : (w : Trail) (s : Forest) → Listing rows ends m old lines f w s node child level n → Went rows ends m old lines f (row rows node).parent (row rows node).next (level - 1) n
      go w (tree c x cs ss) h = absurd (omega (arith, h.child_is, h.links.0.within, h.few))
      go base bare h = absurd (ne h.node_is)
      go (under w i t) bare h =
          let k = h.trails.0 in
          record {
            way = w;
            rest = t;
            listing = record {
              few = h.few;
              trails = h.trails.1;
              links = k.links;
              rootless = k.rootless;
              named = k.named;
              node_is = ap (λ j. (row rows j).parent) h.node_is ∙ k.parent_is;
              child_is = ap (λ j. (row rows j).next) h.node_is ∙ k.next_is;
              level_is = omega (arith, h.level_is);
              shown = h.shown;
              kept = h.kept;
              long = h.long;
              wide = h.wide;
              room = omega (arith, h.room);
              deep = omega (arith, h.deep);
            };
          }

  pub finishes : child ≡ 4294967295 → node ≡ 0 → (n ≡ length (lines_of ends 1 f)) × (lines ≡ lines_of ends 1 f ++ drop n old)
  finishes e z = go went.way went.rest went.listing
    where
      go : (w : Trail) (s : Forest) → Listing rows ends m old lines f w s node child level n → (n ≡ length (lines_of ends 1 f)) × (lines ≡ lines_of ends 1 f ++ drop n old)
      go w (tree c x cs ss) h = absurd (omega (arith, h.child_is, h.links.0.within, h.few))
      go (under w i t) bare h = absurd (h.trails.0.not_root (sym h.node_is ∙ z))
      go base bare h =
          let t : take n lines ≡ lines_of ends 1 f = sym (append-nil (take n lines)) ∙ h.shown in (
            sym (length-take-le n lines (omega (arith, h.long, h.room, h.wide))) ∙ ap length t,
            sym (take-append-drop n lines) ∙ ap (λ x. x ++ drop n lines) t ∙ ap (λ x. lines_of ends 1 f ++ x) h.kept,
          )

-- what keeps a turn safe, in plain numbers
pub record Safe (rows : List NodeRow) (m node child level n : ℕ) : Type 0 where
  pub most : n ≤ 1024
  pub deep : level ≤ n
  pub room : child ≢ 4294967295 → n < 1024
  pub child_within : child ≢ 4294967295 → child < length rows
  pub scope_below : child ≢ 4294967295 → ScopeBelow m (node_of (row rows child).made)
  pub node_within : child ≡ 4294967295 → node ≢ 0 → node < length rows
  pub fall : child ≡ 4294967295 → node ≢ 0 → 0 < level

pub safe : (rows : List NodeRow) (ends : List ℕ) (m : ℕ) (old lines : List Line) (f : Forest) (node child level n : ℕ) → Went rows ends m old lines f node child level n → Safe rows m node child level n
safe rows ends m old lines f node child level n went = go went.way went.rest went.listing
  where
    go : (w : Trail) (s : Forest) → Listing rows ends m old lines f w s node child level n → Safe rows m node child level n
    go w (tree c x cs ss) h =
        let label : x ≡ node_of (row rows child).made = sym h.links.0.made_is ∙ ap (λ i. node_of (row rows i).made) (sym h.child_is) in
        record {
          most = omega (arith, h.room);
          deep = omega (arith, h.level_is, h.deep);
          room = λ _. omega (arith, h.room);
          child_within = λ _. omega (arith, h.child_is, h.links.0.within);
          scope_below = λ _. subst (λ (y : Node). ScopeBelow m y) label (head_named m c x cs ss h.named);
          node_within = λ e _. absurd (omega (arith, h.child_is, h.links.0.within, h.few));
          fall = λ e _. absurd (omega (arith, h.child_is, h.links.0.within, h.few));
        }
    go base bare h =
        record {
          most = omega (arith, h.room);
          deep = omega (arith, h.level_is, h.deep);
          room = λ ne. absurd (ne h.child_is);
          child_within = λ ne. absurd (ne h.child_is);
          scope_below = λ ne. absurd (ne h.child_is);
          node_within = λ e ne. absurd (ne h.node_is);
          fall = λ e ne. absurd (ne h.node_is);
        }
    go (under w i t) bare h =
        record {
          most = omega (arith, h.room);
          deep = omega (arith, h.level_is, h.deep);
          room = λ ne. absurd (ne h.child_is);
          child_within = λ ne. absurd (ne h.child_is);
          scope_below = λ ne. absurd (ne h.child_is);
          node_within = λ _ _. omega (arith, h.node_is, h.trails.0.within);
          fall = λ _ _. omega (arith, h.level_is);
        }

-- any tree that the rows hold is the one whose Scopes are known
pub rooted_any : (rows : List NodeRow) (m : ℕ) (f g : Forest) → Rooted rows m f → Links rows 4294967295 (body g) → Rooted rows m g
rooted_any rows m f g h l =
    let e : body f ≡ body g = determined rows 4294967295 (body f) (body g) h.few h.links l refl in
    let same_tree : f ≡ g = cc in
    subst (λ (t : Forest). Rooted rows m t) same_tree h
