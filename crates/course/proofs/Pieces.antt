-- The printed pieces describe the course.
use mathlib.Core.Path.{◌≡◌, refl, ap, sym, ◌∙◌}
use mathlib.Core.List.{List, [], ◌∷◌, ◌++◌}
use Prim.Native.Nat.{ℕ, zero, suc, ◌+◌, ◌*◌, ◌-◌, ◌/◌, min, ◌≤◌, ◌<◌}
use native.Mathlib.Nat.{le_refl, mul-le-mul_right, sub-zero, add-zero, suc-add, add-suc, div-add-mod', mod-lt, div-lt_iff_lt-mul, le_of_mul-le-mul_right}
use native.Mathlib.Decide.{dec_le}
use native.Mathlib.Omega.{arith}
use borrow.Author.Tests.{lt-ltb, le-ltb}
use Rattle.level.specs.Lists.{sum}
use Rattle.course.specs.declared.Segment.{Segment}
use Rattle.course.specs.Recorded.{SegmentValid, Valid, recorded, area, whole_way, twice_area}
use Rattle.course.specs.Pieces.{seconds, piece, pieces_of, pieces_in}
use Rattle.course.proofs.Sums.{sum_eq, area_split, area_line}
use Rattle.course.proofs.Segments.{recorded_zero, seconds_low}
use Rattle.course.specs.declared.Heading.{Heading}
use Rattle.course.specs.declared.Heading.TheVariants.{Rising, Falling}
use Rattle.course.specs.Course.{heading, Trajectory, toward, gap, level_at, distance, segments}
use Rattle.course.specs.declared.Piece.{Piece}
use Rattle.course.proofs.Near.{toward_add, toward_zero}
use Rattle.course.proofs.Whole.{short_start, level_segments, ways_within, segments_valid}
use Rattle.course.specs.Headings.{Along}

-- a piece of a path: straight, at one rate from the level at which it enters; and it leaves at the path's level
pub record Line (h : Heading) (f : ℕ → ℕ) (p : Piece) : Type 0 where
  pub rate : ℕ
  pub along : (i : ℕ) → i ≤ p.to - p.from → Along h p.enter (i * rate) (f (p.from + i))
  pub ends : p.leave ≡ f p.to

-- pieces that follow each other from a to n, none of length 0, each a part of the path
abbrev pub Traces : Heading → (ℕ → ℕ) → ℕ → ℕ → List Piece → Type 0
Traces h f a n [] = a ≡ n
Traces h f a n (p ∷ ps) = (p.from ≡ a) × (a < p.to) × Line h f p × Traces h f p.to n ps

pub traces_append : (h : Heading) (f : ℕ → ℕ) (a b n : ℕ) (ps qs : List Piece) → Traces h f a b ps → Traces h f b n qs → Traces h f a n (ps ++ qs)
traces_append h f a b n [] qs e t = rw e t
traces_append h f a b n (p ∷ ps) qs e t = (e.0, e.1, e.2, traces_append h f p.to b n ps qs e.3 t)

-- room to fall
abbrev pub Room : Heading → ℕ → ℕ → Type 0
Room Rising v m = Unit {0}
Room Falling v m = m ≤ v

pub room_less : (h : Heading) (v m n : ℕ) → m ≤ n → Room h v n → Room h v m
room_less Rising v m n p r = tt
room_less Falling v m n p r = omega arith

pub room_on : (h : Heading) (v m n : ℕ) → Room h v (m + n) → Room h (toward h v m) n
unfolding toward
room_on Rising v m n r = tt
room_on Falling v m n r = omega arith

along_of : (h : Heading) (v m n u w : ℕ) → Room h v (m + n) → u ≡ toward h v m → w ≡ toward h v (m + n) → Along h u n w
unfolding toward
along_of Rising v m n u w r p q = omega arith
along_of Falling v m n u w r p q = omega arith

-- from x to y by one rate, the path moving from v by m up to k
module _ (h : Heading) (f : ℕ → ℕ) (v x y m k r u w : ℕ) where
  pub line : x ≤ y → u ≡ toward h v m → w ≡ toward h v k → Room h v k →
      (x < y → (k ≡ m + (y - x) * r) × ((i : ℕ) → i ≤ y - x → f (x + i) ≡ toward h v (m + i * r))) → Traces h f x y (piece x y u w)
  unfolding piece
  line p e e' room g = elim (dec_le (suc x) y) [
    | yes q ↦
        let z = g q in
        let last : f y ≡ toward h v k = ap f (omega arith) ∙ z.1 (y - x) (le_refl (y - x)) ∙ ap (toward h v) (sym z.0) in
        rw (lt-ltb x y q) (
          refl,
          q,
          record {
            rate = r;
            along =
                λ i le. along_of h v m (i * r) u (f (x + i)) (room_less h v (m + i * r) k (omega (arith, z.0, mul-le-mul_right r le)) room) e
                (z.1 i le);
            ends = e' ∙ sym last;
          },
          refl,
        )
    | no q ↦ rw (le-ltb x y (omega arith)) (omega arith)
  ]

pub sub_sub : (k a b : ℕ) → k - a - b ≡ k - (a + b)
sub_sub k a b = omega arith

pub sub_past : (k a s d : ℕ) → a + (s + d) ≤ k → (s ≤ k - a) × (a ≤ k)
sub_past k a s d h = omega arith

-- a leg's parts
module _ (l : Segment) (ls : List Segment) (ok : SegmentValid l) where
  pub full_low : l.way / l.rate * l.rate ≤ l.way
  full_low = omega (arith, div-add-mod' l.way l.rate)

  pub full_seconds : (l.way / l.rate ≤ seconds l) × (seconds l ≤ l.way / l.rate + 1)
  unfolding seconds
  full_seconds =
      let more : (l.way + (l.rate - 1)) / l.rate < l.way / l.rate + 2 =
      (div-lt_iff_lt-mul ok.some_rate).1 (omega (arith, div-add-mod' l.way l.rate, mod-lt l.way ok.some_rate)) in
      (le_of_mul-le-mul_right {k = l.rate} (omega (arith, full_low, seconds_low l ok.some_rate)) ok.some_rate, omega arith)

  segment_run : (i : ℕ) → i ≤ l.way / l.rate → recorded (l ∷ ls) i ≡ i * l.rate
  unfolding recorded
  segment_run i p =
      let e : i - (seconds l + l.hold) ≡ 0 = omega (arith, full_seconds) in
      omega (arith, ap (recorded ls) e, recorded_zero ls, full_low, mul-le-mul_right l.rate p)

  segment_hold : (j : ℕ) → seconds l ≤ j → j ≤ seconds l + l.hold → recorded (l ∷ ls) j ≡ l.way
  unfolding recorded
  segment_hold j p q =
      let e : j - (seconds l + l.hold) ≡ 0 = omega arith in
      omega (arith, ap (recorded ls) e, recorded_zero ls, seconds_low l ok.some_rate, mul-le-mul_right l.rate p)

  segment_past : (j : ℕ) → seconds l ≤ j → recorded (l ∷ ls) j ≡ l.way + recorded ls (j - (seconds l + l.hold))
  unfolding recorded
  segment_past j p = omega (arith, seconds_low l ok.some_rate, mul-le-mul_right l.rate p)

-- the three pieces of a leg that begins at second a with the level v, cut at n
module _ (h : Heading) (f : ℕ → ℕ) (n a v full reached held : ℕ) (l : Segment) (ls : List Segment) (ok : SegmentValid l) (p : a ≤ n)
    (room : Room h v l.way)
    (is-full : full ≡ min (l.way / l.rate) (n - a)) (is-reached : reached ≡ min (a + seconds l) n)
    (is_held_lem : held ≡ min (a + (seconds l + l.hold)) n)
    (g : a < n → (k : ℕ) → a ≤ k → k ≤ n → f k ≡ toward h v (recorded (l ∷ ls) (k - a))) where
  full_way : full * l.rate ≤ l.way
  full_way = omega (arith, full_low l ls ok, mul-le-mul_right {m = full} {n = l.way / l.rate} l.rate (omega arith))

  order : (a + full ≤ reached) × (reached ≤ held) × (held ≤ n)
  order = omega (arith, full_seconds l ls ok)

  run : Traces h f a (a + full) (piece a (a + full) v (toward h v (full * l.rate)))
  run =
      line h f v a (a + full) 0 (full * l.rate) l.rate v (toward h v (full * l.rate)) (omega arith) (sym (toward_zero h v)) refl
      (room_less h v (full * l.rate) l.way full_way room)
      (λ q. (
        ap (λ x. x * l.rate) {x = full} {y = a + full - a} (omega arith) ∙ omega arith,
        λ i le. g (omega arith) (a + i) (omega arith) (omega arith)
            ∙ ap (toward h v) (ap (recorded (l ∷ ls)) {x = a + i - a} {y = i} (omega arith) ∙ segment_run l ls ok i (omega arith) ∙ omega arith),
      ))

  -- where there is a shorter last second, it is one second, from the full ones up to the stop
  short_one : a + full < reached → (full ≡ l.way / l.rate) × (seconds l ≡ full + 1) × (reached ≡ a + (full + 1))
  short_one q = omega (arith, full_seconds l ls ok)

  short_at : a + full < reached → (i : ℕ) → i ≤ 1 → recorded (l ∷ ls) (full + i) ≡ full * l.rate + i * (l.way - full * l.rate)
  short_at q i le =
      let d : ℕ = l.way - full * l.rate in
      let s = short_one q in
      elim (dec_le i 0) [
        | yes z ↦ let e : i ≡ 0 = omega arith in ap (recorded (l ∷ ls)) {x = full + i} {y = full} (omega arith)
            ∙ segment_run l ls ok full (omega arith) ∙ omega (arith, ap (λ x. x * d) e)
        | no z ↦ let e : i ≡ 1 = omega arith in segment_hold l ls ok (full + i) (omega arith) (omega arith)
            ∙ omega (arith, full_way, ap (λ x. x * d) e)
      ]

  last : Traces h f (a + full) reached (piece (a + full) reached (toward h v (full * l.rate)) (toward h v l.way))
  last =
      line h f v (a + full) reached (full * l.rate) l.way (l.way - full * l.rate) (toward h v (full * l.rate)) (toward h v l.way) order.0
      refl refl room
      (λ q.
      let e : reached - (a + full) ≡ 1 = omega (arith, (short_one q).2) in (
        omega (arith, full_way, ap (λ x. x * (l.way - full * l.rate)) e),
        λ i le. g (omega arith) (a + full + i) (omega arith) (omega arith)
            ∙ ap (toward h v) (ap (recorded (l ∷ ls)) {x = a + full + i - a} {y = full + i} (omega arith) ∙ short_at q i (omega arith)),
      ))

  hold : Traces h f reached held (piece reached held (toward h v l.way) (toward h v l.way))
  hold =
      line h f v reached held l.way l.way 0 (toward h v l.way) (toward h v l.way) order.1 refl refl room
      (λ q. (
        omega arith,
        λ i le. g (omega arith) (reached + i) (omega arith) (omega arith)
            ∙ ap (toward h v) (segment_hold l ls ok (reached + i - a) (omega arith) (omega arith) ∙ omega arith),
      ))

  on : held < n → (k : ℕ) → held ≤ k → k ≤ n → f k ≡ toward h (toward h v l.way) (recorded ls (k - held))
  on q k x y =
      let at : held ≡ a + (seconds l + l.hold) = omega arith in
      let e : k - a - (seconds l + l.hold) ≡ k - held = rw at (sub_sub k a (seconds l + l.hold)) in
      let z = sub_past k a (seconds l) l.hold (rw at at x) in
      g (omega arith) k z.1 y ∙ ap (toward h v) (segment_past l ls ok (k - a) z.0 ∙ ap (λ m. l.way + recorded ls m) e)
      ∙ sym (toward_add h v l.way (recorded ls (k - held)))

-- the pieces from second a at the level v trace any path that the legs give
pub traces : (h : Heading) (f : ℕ → ℕ) (n : ℕ) (ls : List Segment) (a v : ℕ) → Valid ls → a ≤ n → Room h v (whole_way ls) →
    (a < n → (k : ℕ) → a ≤ k → k ≤ n → f k ≡ toward h v (recorded ls (k - a))) → Traces h f a n (pieces_of h n a v ls)
unfolding pieces_of whole_way recorded
traces h f n [] a v ok p room g =
    line h f v a n 0 0 0 v v p (sym (toward_zero h v)) (sym (toward_zero h v)) room
    (λ q. (omega arith, λ i le. g q (a + i) (omega arith) (omega arith) ∙ ap (toward h v) (omega arith)))
traces h f n (l ∷ ls) a v ok p room g =
    let full : ℕ = min (l.way / l.rate) (n - a) in
    let near : ℕ = toward h v (full * l.rate) in
    let stop : ℕ = toward h v l.way in
    let reached : ℕ = min (a + seconds l) n in
    let held : ℕ = min (a + (seconds l + l.hold)) n in
    let one : List Piece = piece a (a + full) v near in
    let two : List Piece = piece (a + full) reached near stop in
    let three : List Piece = piece reached held stop stop in
    let more : List Piece = pieces_of h n held stop ls in
    let whole : Room h v l.way = room_less h v l.way (l.way + whole_way ls) (omega arith) room in
    traces_append h f a (a + full) n one (two ++ (three ++ more)) (run h f n a v full reached held l ls ok.0 p whole refl refl refl g)
    (traces_append h f (a + full) reached n two (three ++ more) (last h f n a v full reached held l ls ok.0 p whole refl refl refl g)
    (traces_append h f reached held n three more (hold h f n a v full reached held l ls ok.0 p whole refl refl refl g)
    (traces h f n ls held stop ok.1 (omega arith) (room_on h v l.way (whole_way ls) room)
    (on h f n a v full reached held l ls ok.0 p whole refl refl refl g))))

line_up : (f : ℕ → ℕ) (a v r n : ℕ) → ((i : ℕ) → i ≤ n → f (a + i) ≡ v + i * r) → area f a n ≡ n * (v + (v + n * r))
line_up f a v r n h = area_line f a v r n h ∙ omega arith

line_down : (f : ℕ → ℕ) (a v r n : ℕ) → ((i : ℕ) → i ≤ n → f (a + i) + i * r ≡ v) → area f a n + n * (n * r) ≡ n * (v + v)
unfolding area sum
line_down f a v r zero h = omega arith
line_down f a v r (suc n) h =
    let v' : ℕ = f (suc a) in
    let e : v' + r ≡ v = omega (arith, h 1 (omega arith), ap f (add-suc a 0 ∙ ap suc (add-zero a))) in
    omega (
      arith,
      h 0 (omega arith),
      ap f (add-zero a),
      ap (λ x. n * x) e,
      line_down f (suc a) v' r n (λ i le. omega (arith, h (suc i) (omega arith), ap f (suc-add a i ∙ sym (add-suc a i)))),
    )

-- twice the area under the path is that of the pieces
area_of : (h : Heading) (f : ℕ → ℕ) (p : Piece) → Line h f p → p.from ≤ p.to →
    area f p.from (p.to - p.from) ≡ (p.to - p.from) * (p.enter + p.leave)
area_of Rising f p w le =
    let m : ℕ = p.to - p.from in
    let e : p.leave ≡ p.enter + m * w.rate = w.ends ∙ ap f {x = p.to} {y = p.from + m} (omega arith) ∙ w.along m (le_refl m) in
    line_up f p.from p.enter w.rate m w.along ∙ ap (λ x. m * (p.enter + x)) (sym e)
area_of Falling f p w le =
    let m : ℕ = p.to - p.from in
    let e : p.leave + m * w.rate ≡ p.enter =
    ap (λ x. x + m * w.rate) (w.ends ∙ ap f {x = p.to} {y = p.from + m} (omega arith)) ∙ w.along m (le_refl m) in
    omega (arith, line_down f p.from p.enter w.rate m w.along, ap (λ x. m * x) e)

pub traces_area : (h : Heading) (f : ℕ → ℕ) (a n : ℕ) (ps : List Piece) → Traces h f a n ps → (a ≤ n) × (twice_area ps ≡ area f a (n - a))
unfolding twice_area area sum
traces_area h f a n [] e = (omega arith, sym (ap (area f a) {x = n - a} {y = 0} (omega arith)))
traces_area h f a n (p ∷ ps) e =
    let ih = traces_area h f p.to n ps e.3 in
    let b : ℕ = p.to in
    let le : a ≤ b = omega (arith, e.1) in
    let one : area f a (b - a) ≡ (b - p.from) * (p.enter + p.leave) =
    ap (λ x. area f x (b - x)) (sym e.0) ∙ area_of h f p e.2 (omega (arith, e.0)) in (
      omega arith,
      sym (ap (area f a) {x = n - a} {y = b - a + (n - b)} (omega arith) ∙ area_split f a (b - a) (n - b)
          ∙ ap (λ x. area f a (b - a) + area f x (n - b)) {x = a + (b - a)} {y = b} (omega arith) ∙ omega (arith, one, ih.1)),
    )

-- ---- the pieces of a course
module _ (c : Trajectory) where
  pub falls : (h : Heading) → heading c ≡ h → Room h c.start (whole_way (segments c))
  unfolding distance gap
  falls Rising q = tt
  falls Falling q = let t : c.target ≤ c.start = rw q at (short_start c) in omega (arith, ways_within c)

  -- a course that begins at the second a: its pieces follow each other from a to n, none is empty, and each is the second-by-second level
  pub pieces_trace : (a n : ℕ) → a ≤ n → Traces (heading c) (λ k. level_at c (k - a)) a n (pieces_in c a n)
  unfolding pieces_in
  pieces_trace a n p =
      traces (heading c) (λ k. level_at c (k - a)) n (segments c) a c.start (segments_valid c) p (falls (heading c) refl)
      (λ q k x y. level_segments c (k - a))

  -- twice the area of its pieces up to the second n is the sum over its seconds
  pub pieces_area : (n : ℕ) → twice_area (pieces_in c 0 n) ≡ area (level_at c) 0 n
  unfolding area
  pieces_area n =
      (traces_area (heading c) (λ k. level_at c (k - 0)) 0 n (pieces_in c 0 n) (pieces_trace 0 n (omega arith))).1
      ∙ sum_eq (λ j. level_at c (j - 0) + level_at c (suc j - 0)) (λ j. level_at c j + level_at c (suc j)) (λ j. rw (sub-zero j, sub-zero (suc j))) 0
      (n - 0)
      ∙ ap (sum (λ j. level_at c j + level_at c (suc j)) 0) (sub-zero n)

  -- over any window, as a difference
  pub pieces_window : (a n : ℕ) → twice_area (pieces_in c 0 (a + n)) ≡ twice_area (pieces_in c 0 a) + area (level_at c) a n
  pieces_window a n =
      pieces_area (a + n) ∙ area_split (level_at c) 0 a n ∙ ap (λ x. area (level_at c) 0 a + area (level_at c) x n) {x = 0 + a} {y = a} (omega arith)
      ∙ ap (λ x. x + area (level_at c) a n) (sym (pieces_area a))

-- a piece cut at two seconds x and y within it is straight too, and twice its area is its time by the sum of the levels there
module _ (f : ℕ → ℕ) (p : Piece) (x y : ℕ) (a : p.from ≤ x) (b : x ≤ y) (c : y ≤ p.to) where
  moved_on : (k : ℕ) → p.from + (x - p.from + k) ≡ x + k
  moved_on k = omega arith

  cut_line : (h : Heading) → Line h f p → Line h f (record { from = x; to = y; enter = f x; leave = f y })
  cut_line Rising l = record {
    rate = l.rate;
    along =
        λ i q. omega (
          arith,
          l.along (x - p.from) (omega arith),
          l.along (x - p.from + i) (omega arith),
          ap f (moved_on i),
          ap f
              {x = p.from + (x - p.from)} {y = x} (omega arith),
        );
    ends = refl;
  }
  cut_line Falling l = record {
    rate = l.rate;
    along =
        λ i q. omega (
          arith,
          l.along (x - p.from) (omega arith),
          l.along (x - p.from + i) (omega arith),
          ap f (moved_on i),
          ap f
              {x = p.from + (x - p.from)} {y = x} (omega arith),
        );
    ends = refl;
  }

  pub piece_cut : (h : Heading) → Line h f p → area f x (y - x) ≡ (y - x) * (f x + f y)
  piece_cut h l = area_of h f (record { from = x; to = y; enter = f x; leave = f y }) (cut_line h l) b
