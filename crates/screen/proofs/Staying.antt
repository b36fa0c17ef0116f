-- What is kept stays kept when rows are added at the end.
use Rattle.std.proofs.Common.{◌≡◌, ℕ, ◌+◌, ◌≤◌, Bool, true, not, ◌&&◌, eqb, List, [], ◌∷◌, ◌++◌, length, get_or, Some, None, Option, sym, refl, ap, ◌∙◌, subst, arith}
use Rattle.std.proofs.lemmas.List.{append_assoc, append-nil, get_or_append_left, length-append}
use Rattle.std.proofs.lemmas.Bool.{and_parts, and_from, ltb-true, lt-ltb, leb-true, le-leb, false≢true}
use Rattle.block.specs.declared.record.Record.{Record}
use Rattle.screen.specs.Lists.{every, is_put, span}
use Rattle.screen.specs.Values.{value_of}
use Rattle.screen.specs.Entries.{entry_of}
use Rattle.screen.specs.Records.{type_record, identifier_record, path_record, dependency_record, declaration_record, read_record, value_record, shape_record}
use Rattle.screen.specs.State.{Rows}
use Rattle.screen.specs.Named.{no_value, optional_put, operand, optional_operand, inner, value_named, node_named, put_named, part_named, named}
use Rattle.screen.specs.WellFormed.{kept_by, kept, is_listed, value_kept, values_kept, node_listed, nodes_kept, RowsKept}
use Rattle.screen.specs.declared.node.Node.{Node}
use Rattle.screen.specs.declared.node.Node.TheVariants as node
use Rattle.screen.specs.declared.scope.Status.{Status}
use Rattle.screen.specs.declared.rows.IdentifierRow.{IdentifierRow}
use Rattle.screen.specs.declared.rows.ReadRow.{ReadRow}
use Rattle.screen.specs.declared.rows.ValueRow.{ValueRow}
use Rattle.screen.specs.declared.value.Value.{Value}
use Rattle.screen.specs.declared.value.Value.TheVariants as value
use Rattle.screen.specs.declared.entry.Entry.{Entry}
use Rattle.screen.specs.declared.entry.Entry.TheVariants as entry
use Rattle.screen.specs.declared.entry.Put.{Put}
use Rattle.screen.specs.declared.entry.Put.TheVariants as put
use Rattle.screen.specs.declared.entry.Part.{Part}
use Rattle.screen.specs.declared.entry.Part.TheVariants as part
use Rattle.screen.proofs.Levelling.{every_push}

-- two tests, each of which leads to another
both : (a b c d : Bool) → (a ≡ true → c ≡ true) → (b ≡ true → d ≡ true) → (a && b) ≡ true → (c && d) ≡ true
both a b c d f g h = let k = and_parts a b h in and_from c d (f k.0) (g k.1)

pub every_weaker : {A : Type 0} (p q : A → Bool) → ((x : A) → p x ≡ true → q x ≡ true) → (xs : List A) → every p xs ≡ true → every q xs ≡ true
every_weaker p q f [] h = refl
every_weaker p q f (x ∷ xs) h = both (p x) (every p xs) (q x) (every q xs) (f x) (every_weaker p q f xs) h

is_put_stays : {A B : Type 0} (xs : List A) (ys : List B) → length xs ≤ length ys → (n : ℕ) → is_put xs n ≡ true → is_put ys n ≡ true
is_put_stays xs ys l n h = lt-ltb n (length ys) (omega (arith, ltb-true n (length xs) h))

span_stays : {A B : Type 0} (xs : List A) (ys : List B) → length xs ≤ length ys → (n m : ℕ) → span xs n m ≡ true → span ys n m ≡ true
span_stays xs ys l n m h = le-leb (n + m) (length ys) (omega (arith, leb-true (n + m) (length xs) h))

optional_stays : {A B : Type 0} (xs : List A) (ys : List B) → length xs ≤ length ys → (o : Option ℕ) → optional_put xs o ≡ true → optional_put ys o ≡ true
optional_stays xs ys l None h = refl
optional_stays xs ys l (Some n) h = is_put_stays xs ys l n h

-- values with more behind them
module _ (vs more : List ValueRow) where
  value_put : (k : ℕ) → is_put vs k ≡ true → is_put (vs ++ more) k ≡ true
  value_put k h = is_put_stays vs (vs ++ more) (omega (arith, length-append vs more)) k h

  value_kind : (k : ℕ) (t : ℕ → Bool) → (is_put vs k && t (get_or vs k no_value).kind) ≡ true → (is_put (vs ++ more) k && t (get_or (vs ++ more) k no_value).kind) ≡ true
  value_kind k t h =
      let a = and_parts (is_put vs k) (t (get_or vs k no_value).kind) h in
      and_from (is_put (vs ++ more) k) (t (get_or (vs ++ more) k no_value).kind) (value_put k a.0)
      (ap (λ v. t v.kind) (get_or_append_left vs more no_value k (ltb-true k (length vs) a.0)) ∙ a.1)

  operand_stays : (k : ℕ) → operand vs k ≡ true → operand (vs ++ more) k ≡ true
  operand_stays k h = value_kind k (λ n. not (eqb n 16)) h

  optional_operand_stays : (o : Option ℕ) → optional_operand vs o ≡ true → optional_operand (vs ++ more) o ≡ true
  optional_operand_stays None h = refl
  optional_operand_stays (Some k) h = operand_stays k h

  inner_stays : (o : Option ℕ) → inner vs o ≡ true → inner (vs ++ more) o ≡ true
  inner_stays None h = refl
  inner_stays (Some k) h = value_kind k (λ n. eqb n 16) h

  pub value_stays : (is is' : List IdentifierRow) (rs rs' : List ReadRow) → length is ≤ length is' → length rs ≤ length rs' → (v : Value) → value_named is rs vs v ≡ true → value_named is' rs' (vs ++ more) v ≡ true
  value_stays is is' rs rs' i r (value.Other a) h = span_stays rs rs' r a.first a.count h
  value_stays is is' rs rs' i r (value.Simple a) h = span_stays rs rs' r a.first a.count h
  value_stays is is' rs rs' i r (value.LoadLocal a) h = span_stays rs rs' r a.first a.count h
  value_stays is is' rs rs' i r (value.StoreConst a s) h =
      both (span rs a.first a.count) (is_put is s) (span rs' a.first a.count) (is_put is' s) (span_stays rs rs' r a.first a.count) (is_put_stays is is' i s) h
  value_stays is is' rs rs' i r (value.StoreLocal a s) h =
      both (span rs a.first a.count) (is_put is s) (span rs' a.first a.count) (is_put is' s) (span_stays rs rs' r a.first a.count) (is_put_stays is is' i s) h
  value_stays is is' rs rs' i r (value.Logical a b) h = both (operand vs a) (operand vs b) (operand (vs ++ more) a) (operand (vs ++ more) b) (operand_stays a) (operand_stays b) h
  value_stays is is' rs rs' i r (value.Conditional a b c) h =
      both (operand vs a && operand vs b) (operand vs c) (operand (vs ++ more) a && operand (vs ++ more) b) (operand (vs ++ more) c)
      (both (operand vs a) (operand vs b) (operand (vs ++ more) a) (operand (vs ++ more) b) (operand_stays a) (operand_stays b)) (operand_stays c) h
  value_stays is is' rs rs' i r (value.Sequence o v f) h = both (operand vs v) (inner vs f) (operand (vs ++ more) v) (inner (vs ++ more) f) (operand_stays v) (inner_stays f) h
  value_stays is is' rs rs' i r (value.Optional v) h = operand_stays v h
  value_stays is is' rs rs' i r (value.Inner o v n) h = both (operand vs v) (inner vs n) (operand (vs ++ more) v) (inner (vs ++ more) n) (operand_stays v) (inner_stays n) h

  pub node_stays : (is is' : List IdentifierRow) (ss ss' : List Status) → length is ≤ length is' → length ss ≤ length ss' → (x : Node) → node_named is vs ss x ≡ true → node_named is' (vs ++ more) ss' x ≡ true
  node_stays is is' ss ss' i s node.Body h = refl
  node_stays is is' ss ss' i s (node.Add o v t) h = both (operand vs v) (optional_put is t) (operand (vs ++ more) v) (optional_put is' t) (operand_stays v) (optional_stays is is' i t) h
  node_stays is is' ss ss' i s (node.Terminal k o v) h = optional_operand_stays v h
  node_stays is is' ss ss' i s node.Arm h = refl
  node_stays is is' ss ss' i s (node.Scope k) h = is_put_stays ss ss' s k h
  node_stays is is' ss ss' i s (node.Pruned k) h = is_put_stays ss ss' s k h

-- rows w' and statuses ss' with all that w and ss have, and maybe more at the end
pub record Longer (w : Rows) (ss : List Status) (w' : Rows) (ss' : List Status) : Type 0 where
  pub types : length w.types ≤ length w'.types
  pub identifiers : length w.identifiers ≤ length w'.identifiers
  pub paths : length w.paths ≤ length w'.paths
  pub reads : length w.reads ≤ length w'.reads
  pub statuses : length ss ≤ length ss'
  pub more : List ValueRow
  pub values : w.values ++ more ≡ w'.values

module _ (w : Rows) (ss : List Status) (w' : Rows) (ss' : List Status) (l : Longer w ss w' ss') where
  put_stays : (p : Put) → put_named w p ≡ true → put_named w' p ≡ true
  put_stays (put.Type k s) h = refl
  put_stays (put.Identifier i) h = is_put_stays w.types w'.types l.types i.typ h
  put_stays (put.Path low high k o) h = refl
  put_stays (put.Scope a z) h = refl
  put_stays (put.Read r) h = is_put_stays w.identifiers w'.identifiers l.identifiers r.identifier h
  put_stays (put.Shape s) h = refl

  identifier_stays : (n : ℕ) → is_put w.identifiers n ≡ true → is_put w'.identifiers n ≡ true
  identifier_stays = is_put_stays w.identifiers w'.identifiers l.identifiers

  part_stays : (p : Part) → part_named w p ≡ true → part_named w' p ≡ true
  part_stays (part.Dependency d) h =
      both (is_put w.identifiers d.identifier) (span w.paths d.first d.length) (is_put w'.identifiers d.identifier) (span w'.paths d.first d.length)
      (identifier_stays d.identifier) (span_stays w.paths w'.paths l.paths d.first d.length) h
  part_stays (part.Declaration k d) h =
      both (is_put w.identifiers k) (is_put w.identifiers d) (is_put w'.identifiers k) (is_put w'.identifiers d) (identifier_stays k) (identifier_stays d) h
  part_stays (part.Reassignment i) h = identifier_stays i h

  pub named_stays : (e : Entry) → named w ss e ≡ true → named w' ss' e ≡ true
  named_stays (entry.Put p) h = put_stays p h
  named_stays (entry.Part p) h = both (is_put ss 0) (part_named w p) (is_put ss' 0) (part_named w' p) (is_put_stays ss ss' l.statuses 0) (part_stays p) h
  named_stays (entry.Value v) h =
      subst (λ (vs : List ValueRow). value_named w'.identifiers w'.reads vs (value_of v) ≡ true) l.values
      (value_stays w.values l.more w.identifiers w'.identifiers w.reads w'.reads l.identifiers l.reads (value_of v) h)
  named_stays (entry.Node x) h =
      subst (λ (vs : List ValueRow). node_named w'.identifiers vs ss' x ≡ true) l.values
      (node_stays w.values l.more w.identifiers w'.identifiers ss ss' l.identifiers l.statuses x h)
  named_stays entry.Close h = refl
  named_stays entry.List h = refl

  kept_stays : (x : Record) → kept w ss x ≡ true → kept w' ss' x ≡ true
  kept_stays x h = go (entry_of x) h
    where
      go : (o : Option Entry) → kept_by w ss o ≡ true → kept_by w' ss' o ≡ true
      go None h = h
      go (Some e) h = named_stays e h

  pub every_stays : {A : Type 0} (made : A → Record) (xs : List A) → every (λ x. kept w ss (made x)) xs ≡ true → every (λ x. kept w' ss' (made x)) xs ≡ true
  every_stays made xs h = every_weaker (λ x. kept w ss (made x)) (λ x. kept w' ss' (made x)) (λ x. kept_stays (made x)) xs h

  -- one row more, of an entry that is named
  pub every_more : {A : Type 0} (made : A → Record) (xs : List A) (x : A) (e : Entry) → every (λ y. kept w ss (made y)) xs ≡ true → entry_of (made x) ≡ Some e → named w ss e ≡ true
      → every (λ y. kept w' ss' (made y)) (xs ++ x ∷ []) ≡ true
  every_more made xs x e h is n =
      every_push (λ y. kept w' ss' (made y)) xs x (every_stays made xs h) (ap (kept_by w' ss') is ∙ named_stays e n)

  nodes_stay : (xs : List Node) → nodes_kept w.identifiers w.values ss xs ≡ true → nodes_kept w'.identifiers w'.values ss' xs ≡ true
  nodes_stay [] h = h
  nodes_stay (node.Body ∷ xs) h =
      every_weaker (λ x. node_listed x && node_named w.identifiers w.values ss x) (λ x. node_listed x && node_named w'.identifiers w'.values ss' x)
      (λ x k. both (node_listed x) (node_named w.identifiers w.values ss x) (node_listed x) (node_named w'.identifiers w'.values ss' x) (λ e. e) (named_stays (entry.Node x)) k) xs h
  nodes_stay (node.Add o v t ∷ xs) h = h
  nodes_stay (node.Terminal k o v ∷ xs) h = h
  nodes_stay (node.Arm ∷ xs) h = h
  nodes_stay (node.Scope k ∷ xs) h = h
  nodes_stay (node.Pruned k ∷ xs) h = h

-- values stay kept with more identifiers and reads
values_stay : (is is' : List IdentifierRow) (rs rs' : List ReadRow) → length is ≤ length is' → length rs ≤ length rs'
    → (before vs : List ValueRow) → values_kept is rs before vs ≡ true → values_kept is' rs' before vs ≡ true
values_stay is is' rs rs' i r before [] h = refl
values_stay is is' rs rs' i r before (v ∷ vs) h =
    both (value_kept is rs before v) (values_kept is rs (before ++ v ∷ []) vs) (value_kept is' rs' before v) (values_kept is' rs' (before ++ v ∷ []) vs)
    (both (is_listed (entry_of (value_record v))) (value_named is rs before (value_of v)) (is_listed (entry_of (value_record v))) (value_named is' rs' before (value_of v)) (λ e. e) here)
    (values_stay is is' rs rs' i r (before ++ v ∷ []) vs) h
  where
    here : value_named is rs before (value_of v) ≡ true → value_named is' rs' before (value_of v) ≡ true
    here k = subst (λ (us : List ValueRow). value_named is' rs' us (value_of v) ≡ true) (append-nil before) (value_stays before [] is is' rs rs' i r (value_of v) k)

-- one value more, whose children are among all before it
pub values_more : (is : List IdentifierRow) (rs : List ReadRow) (before vs : List ValueRow) (v : ValueRow) → values_kept is rs before vs ≡ true → value_kept is rs (before ++ vs) v ≡ true
    → values_kept is rs before (vs ++ v ∷ []) ≡ true
values_more is rs before [] v h k = and_from (value_kept is rs before v) true (subst (λ (us : List ValueRow). value_kept is rs us v ≡ true) (append-nil before) k) refl
values_more is rs before (u ∷ us) v h k =
    let a = and_parts (value_kept is rs before u) (values_kept is rs (before ++ u ∷ []) us) h in
    and_from (value_kept is rs before u) (values_kept is rs (before ++ u ∷ []) (us ++ v ∷ [])) a.0
    (values_more is rs (before ++ u ∷ []) us v a.1 (subst (λ (ws : List ValueRow). value_kept is rs ws v ≡ true) (sym (append_assoc before (u ∷ []) us)) k))

-- one node more
pub nodes_more : (is : List IdentifierRow) (vs : List ValueRow) (ss : List Status) (xs : List Node) (x : Node) → nodes_kept is vs ss xs ≡ true → node_listed x ≡ true → node_named is vs ss x ≡ true
    → nodes_kept is vs ss (xs ++ x ∷ []) ≡ true
nodes_more is vs ss [] x h l n = absurd (false≢true h)
nodes_more is vs ss (node.Body ∷ xs) x h l n = every_push (λ y. node_listed y && node_named is vs ss y) xs x h (and_from (node_listed x) (node_named is vs ss x) l n)
nodes_more is vs ss (node.Add o v t ∷ xs) x h l n = absurd (false≢true h)
nodes_more is vs ss (node.Terminal k o v ∷ xs) x h l n = absurd (false≢true h)
nodes_more is vs ss (node.Arm ∷ xs) x h l n = absurd (false≢true h)
nodes_more is vs ss (node.Scope k ∷ xs) x h l n = absurd (false≢true h)
nodes_more is vs ss (node.Pruned k ∷ xs) x h l n = absurd (false≢true h)

-- the old rows, beside new ones
pub record Stay (w w' : Rows) (ss' : List Status) : Type 0 where
  pub types : every (λ t. kept w' ss' (type_record t)) w.types ≡ true
  pub identifiers : every (λ i. kept w' ss' (identifier_record i)) w.identifiers ≡ true
  pub paths : every (λ p. kept w' ss' (path_record p)) w.paths ≡ true
  pub dependencies : every (λ d. kept w' ss' (dependency_record d)) w.dependencies ≡ true
  pub declarations : every (λ d. kept w' ss' (declaration_record d.key d.declared)) w.declarations ≡ true
  pub reads : every (λ r. kept w' ss' (read_record r)) w.reads ≡ true
  pub values : values_kept w'.identifiers w'.reads [] w.values ≡ true
  pub shapes : every (λ s. kept w' ss' (shape_record s)) w.shapes ≡ true
  pub nodes : nodes_kept w'.identifiers w'.values ss' w.nodes ≡ true

pub rows_stay : (w : Rows) (ss : List Status) (w' : Rows) (ss' : List Status) → Longer w ss w' ss' → RowsKept w ss → Stay w w' ss'
rows_stay w ss w' ss' l h =
    record {
      types = every_stays w ss w' ss' l type_record w.types h.types;
      identifiers = every_stays w ss w' ss' l identifier_record w.identifiers h.identifiers;
      paths = every_stays w ss w' ss' l path_record w.paths h.paths;
      dependencies = every_stays w ss w' ss' l dependency_record w.dependencies h.dependencies;
      declarations = every_stays w ss w' ss' l (λ d. declaration_record d.key d.declared) w.declarations h.declarations;
      reads = every_stays w ss w' ss' l read_record w.reads h.reads;
      values = values_stay w.identifiers w'.identifiers w.reads w'.reads l.identifiers l.reads [] w.values h.values;
      shapes = every_stays w ss w' ss' l shape_record w.shapes h.shapes;
      nodes = nodes_stay w ss w' ss' l w.nodes h.nodes;
    }
