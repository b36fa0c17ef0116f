-- Sums over row numbers, and over the nodes of a forest.
use Rattle.std.proofs.Common.{◌≡◌, ℕ, zero, suc, ◌+◌, ◌*◌, ◌<◌, ◌≤◌, List, length, sym, refl, ap, ◌∙◌, subst, add-mul, one-mul, zero-mul, mul-one, add-one, arith}
use native.Mathlib.Decide.{dec_lt}
use Rattle.screen.specs.Forest.{Forest, bare, tree, same, cnt, size}
use Rattle.sheet.specs.declared.rows.NodeRow.{NodeRow}
use Rattle.sheet.specs.Links.{Links}
use Rattle.sheet.specs.Fitting.{sum_below}
use Rattle.screen.proofs.Counts.{same_self, same_other}

-- one more
pub sum_more : (n : ℕ) (g : ℕ → ℕ) → sum_below (n + 1) g ≡ g n + sum_below n g
sum_more n g = ap (λ m. sum_below m g) (add-one n)

-- the first of them, and the rest
pub sum_front : (n : ℕ) (g : ℕ → ℕ) → sum_below (suc n) g ≡ g 0 + sum_below n (λ k. g (suc k))
sum_front zero g = refl
sum_front (suc n) g = omega (arith, sum_front n g)

pub sum_add : (n : ℕ) (g h : ℕ → ℕ) → sum_below n (λ k. g k + h k) ≡ sum_below n g + sum_below n h
sum_add zero g h = refl
sum_add (suc n) g h = omega (arith, sum_add n g h)

pub sum_zero : (n : ℕ) → sum_below n (λ k. 0) ≡ 0
sum_zero zero = refl
sum_zero (suc n) = omega (arith, sum_zero n)

pub sum_like : (n : ℕ) (g h : ℕ → ℕ) → ((k : ℕ) → k < n → g k ≡ h k) → sum_below n g ≡ sum_below n h
sum_like zero g h e = refl
sum_like (suc n) g h e = omega (arith, e n (omega arith), sum_like n g h (λ k l. e k (omega arith)))

pub sum_under : (n : ℕ) (g h : ℕ → ℕ) → ((k : ℕ) → k < n → g k ≤ h k) → sum_below n g ≤ sum_below n h
sum_under zero g h e = omega arith
sum_under (suc n) g h e = omega (arith, e n (omega arith), sum_under n g h (λ k l. e k (omega arith)))

pub sum_mono : (g : ℕ → ℕ) (m n : ℕ) → m ≤ n → sum_below m g ≤ sum_below n g
sum_mono g zero zero l = omega arith
sum_mono g (suc m) zero l = absurd (omega arith)
sum_mono g m (suc n) l = go (dec_lt m (suc n)) (λ k. sum_mono g m n k)
  where
    go : Dec (m < suc n) → (m ≤ n → sum_below m g ≤ sum_below n g) → sum_below m g ≤ sum_below (suc n) g
    go (yes k) ih = omega (arith, ih (omega arith))
    go (no k) ih =
        let e : m ≡ suc n = omega arith in
        omega (arith, ap (λ x. sum_below x g) e)

-- where no term is larger and the sums are the same, each term is the same
pub sum_tight : (n : ℕ) (g h : ℕ → ℕ) → ((k : ℕ) → k < n → g k ≤ h k) → sum_below n g ≡ sum_below n h → (k : ℕ) → k < n → g k ≡ h k
sum_tight zero g h e s k l = absurd (omega arith)
sum_tight (suc n) g h e s k l =
    let here = e n (omega arith) in
    let rest = sum_under n g h (λ j m. e j (omega arith)) in
    go (dec_lt k n) (λ m. sum_tight n g h (λ j i. e j (omega arith)) (omega arith) k m) (omega arith)
  where
    go : Dec (k < n) → (k < n → g k ≡ h k) → g n ≡ h n → g k ≡ h k
    go (yes m) below top = below m
    go (no m) below top =
        let is : n ≡ k = omega arith in
        subst (λ (i : ℕ). g i ≡ h i) is top

sum_past : (n i : ℕ) (w : ℕ → ℕ) → n ≤ i → sum_below n (λ k. same k i * w k) ≡ 0
sum_past zero i w h = refl
sum_past (suc n) i w h =
    omega (arith, sum_past n i w (omega arith), ap (λ x. x * w n) (same_other n i (omega arith)), zero-mul (w n))

-- the sum of what stands at one number alone
sum_at : (n i : ℕ) (w : ℕ → ℕ) → i < n → sum_below n (λ k. same k i * w k) ≡ w i
sum_at zero i w h = absurd (omega arith)
sum_at (suc n) i w h = go (λ l. sum_at n i w l) (dec_lt i n)
  where
    go : (i < n → sum_below n (λ k. same k i * w k) ≡ w i) → Dec (i < n) → sum_below (suc n) (λ k. same k i * w k) ≡ w i
    go ih (yes l) = omega (arith, ih l, ap (λ x. x * w n) (same_other n i (omega arith)), zero-mul (w n))
    go ih (no l) =
        let e : i ≡ n = omega arith in
        omega (arith, sum_past n i w (omega arith), ap (λ x. same n x * w n) e, ap (λ x. x * w n) (same_self n), one-mul (w n), ap w e)

-- the sum over the nodes of a forest
abbrev pub total_of : (ℕ → ℕ) → Forest → ℕ
total_of w bare = 0
total_of w (tree n x cs ss) = w n + total_of w cs + total_of w ss

-- it is the sum over the rows, each as often as its node is there
pub sum_total : (rows : List NodeRow) (w : ℕ → ℕ) (p : ℕ) (f : Forest) → Links rows p f → sum_below (length rows) (λ k. cnt k f * w k) ≡ total_of w f
sum_total rows w p bare h = sum_like (length rows) (λ k. 0 * w k) (λ k. 0) (λ k l. zero-mul (w k)) ∙ sum_zero (length rows)
sum_total rows w p (tree n x cs ss) h =
    let N : ℕ = length rows in
    let parts = sum_like N (λ k. (same k n + cnt k cs + cnt k ss) * w k) (λ k. same k n * w k + cnt k cs * w k + cnt k ss * w k)
    (λ k l. omega (arith, add-mul (same k n + cnt k cs) (cnt k ss) (w k), add-mul (same k n) (cnt k cs) (w k))) in
    omega (arith, parts, sum_add N (λ k. same k n * w k + cnt k cs * w k) (λ k. cnt k ss * w k), sum_add N (λ k. same k n * w k) (λ k. cnt k cs * w k), sum_at N n w h.0.within, sum_total rows w n cs h.1, sum_total rows w p ss h.2)

pub size_total : (f : Forest) → size f ≡ total_of (λ k. 1) f
size_total bare = refl
size_total (tree n x cs ss) = omega (arith, size_total cs, size_total ss)

pub sum_size : (rows : List NodeRow) (p : ℕ) (f : Forest) → Links rows p f → sum_below (length rows) (λ k. cnt k f) ≡ size f
sum_size rows p f h =
    sum_like (length rows) (λ k. cnt k f) (λ k. cnt k f * 1) (λ k l. sym (mul-one (cnt k f))) ∙ sum_total rows (λ k. 1) p f h ∙ sym (size_total f)

sum_ones : (n : ℕ) → sum_below n (λ k. 1) ≡ n
sum_ones zero = refl
sum_ones (suc n) = omega (arith, sum_ones n)

-- distinct nodes are no more than the rows
pub size_fits : (rows : List NodeRow) (p : ℕ) (f : Forest) → Links rows p f → ((k : ℕ) → cnt k f ≤ 1) → size f ≤ length rows
size_fits rows p f h d = omega (arith, sum_size rows p f h, sum_under (length rows) (λ k. cnt k f) (λ k. 1) (λ k l. d k), sum_ones (length rows))
