-- The printed pieces begin just where the course begins or another part of it.
use mathlib.Core.Path.{◌≡◌, refl, ap, sym, ◌∙◌}
use mathlib.Core.List.{List, [], ◌∷◌, ◌++◌}
use mathlib.Core.Bool.{Bool, true, false, ◌&&◌, ◌||◌, not, and-true, and-false}
use Prim.Native.Nat.{ℕ, zero, suc, ◌+◌, ◌*◌, ◌-◌, ◌/◌, min, ◌≤◌, ◌<◌}
use native.Mathlib.Nat.{mul-le-mul_right, div-add-mod', mod-lt}
use native.Mathlib.Decide.{dec_le, ℕ_discrete}
use native.Mathlib.Omega.{arith}
use lib.Dec.{ltb, eqb}
use lib.ListN.{length}
use borrow.Author.Tests.{lt-ltb, le-ltb, le-leb, lt-leb, eq-eqb, ne_eqb}
use Rattle.level.specs.Lists.{some}
use Rattle.course.specs.declared.Segment.{Segment}
use Rattle.course.specs.declared.Piece.{Piece}
use Rattle.course.specs.Recorded.{SegmentValid}
use Rattle.course.specs.Lists.{Lists}
use Rattle.course.specs.declared.Heading.{Heading}
use Rattle.course.specs.Course.{heading, Trajectory, toward, gap, rate_at, candidates, next_stop, hold_at, after, second, stops_from, segments_of, moment_at, segments, stops}
use Rattle.course.specs.Pieces.{seconds, piece, pieces_of, pieces_in, Part, part_from, part_on, same_part, part_changes}
use Rattle.course.specs.Headings.{Past, Short}
use Rattle.course.proofs.Near.{short_past, gap_some, ahead}
use Rattle.course.proofs.Ahead.{next_past, next_fewer}
use Rattle.course.proofs.Segments.{seconds_some, seconds_low, seconds_high}
use Rattle.course.proofs.Rule.{at, past_not, second_stop, after_rest_lem, segments_more, segments_none}
use Rattle.course.proofs.Seconds.{holds, under, short_of, after_add}
use Rattle.course.proofs.Whole.{Driven, rate_some, short_start, enough}
use Rattle.course.proofs.Pieces.{full_low, full_seconds}

-- ---- pieces as parts

same_refl : (q : Part) → same_part q q ≡ true
unfolding same_part
same_refl q = simp (eq-eqb q.kind q.kind refl, eq-eqb q.stop q.stop refl)

-- pieces that follow each other from a to b, none of length 0, f the part at each second: it is one within a piece, and another where the piece ends,
-- unless that is at n
abbrev Parted : (ℕ → Part) → ℕ → ℕ → ℕ → List Piece → Type 0
Parted f n a b [] = a ≡ b
Parted f n a b (p ∷ ps) = (p.from ≡ a) × (a < p.to) × ((i : ℕ) → a ≤ i → i < p.to → f i ≡ f a) × (p.to < n → same_part (f a) (f p.to) ≡ false) ×
    Parted f n p.to b ps

parted_append : (f : ℕ → Part) (n a b c : ℕ) (ps qs : List Piece) → Parted f n a b ps → Parted f n b c qs → Parted f n a c (ps ++ qs)
parted_append f n a b c [] qs e t = rw e t
parted_append f n a b c (p ∷ ps) qs e t = (e.0, e.1, e.2, e.3, parted_append f n p.to b c ps qs e.4 t)

parted_order : (f : ℕ → Part) (n a b : ℕ) (ps : List Piece) → Parted f n a b ps → a ≤ b
parted_order f n a b [] e = omega (arith, e)
parted_order f n a b (p ∷ ps) e = omega (arith, e.1, parted_order f n p.to b ps e.4)

-- one piece, all of it of the part q
one_part : (f : ℕ → Part) (n x y u w : ℕ) (q : Part) → x ≤ y →
    (x < y → ((i : ℕ) → x ≤ i → i < y → f i ≡ q) × (y < n → same_part q (f y) ≡ false)) → Parted f n x y (piece x y u w)
unfolding piece
one_part f n x y u w q p g = elim (dec_le (suc x) y) [
  | yes r ↦
      let z = g r in
      let first : f x ≡ q = z.0 x (omega arith) r in
      rw (lt-ltb x y r) (refl, r, λ i lo hi. z.0 i lo hi ∙ sym first, λ lt. ap (λ (o : Part). same_part o (f y)) first ∙ z.1 lt, refl)
  | no r ↦ rw (le-ltb x y (omega arith)) (omega arith)
]

-- whether the second x, one of those from a to n, is the first of them or has the mark c
abbrev begins : ℕ → ℕ → ℕ → Bool → Bool
begins a n x c = ltb x n && (eqb x a || (ltb a x && c))

begins_before : (a n x : ℕ) (c : Bool) → x < a → begins a n x c ≡ false
begins_before a n x c p = simp (ne_eqb x a (λ e. omega arith), le-ltb a x (omega arith), and-false (ltb x n))

begins_past : (a n x : ℕ) (c : Bool) → a < x → begins a n x c ≡ (ltb x n && c)
begins_past a n x c p = simp (ne_eqb x a (λ e. omega arith), lt-ltb a x p)

begins_first : (a n x : ℕ) (c : Bool) → x ≡ a → begins a n x c ≡ ltb x n
begins_first a n x c e = simp (eq-eqb x a e) (and-true (ltb x n))

-- the seconds from a on, the first piece of which ends at b
module _ (f : ℕ → Part) (n a b x : ℕ) (p : a < b) (q : b ≤ n) (one : (i : ℕ) → a ≤ i → i < b → f i ≡ f a)
    (other : b < n → same_part (f a) (f b) ≡ false) where
  abbrev changes : Bool
  changes = not (same_part (f (x - 1)) (f x))

  within : a < x → x < b → changes ≡ false
  within lo hi =
      ap not (ap (λ (o : Part). same_part o (f x)) (one (x - 1) (omega arith) (omega arith) ∙ sym (one x (omega arith) hi)) ∙ same_refl (f x))

  next : x ≡ b → b < n → changes ≡ true
  next e lt =
      ap not (ap (λ (o : Part). same_part o (f x)) (one (x - 1) (omega arith) (omega arith)) ∙ ap (λ (i : ℕ). same_part (f a) (f i)) e ∙ other lt)

  first_or : (eqb x a || begins b n x changes) ≡ begins a n x changes
  first_or = elim (dec_le x a) [
    | yes lo ↦ elim (ℕ_discrete x a) [
      | yes e ↦ rw (begins_first a n x changes e) (simp (eq-eqb x a e, lt-ltb x n (omega arith)))
      | no e ↦ rw (begins_before a n x changes (omega arith), begins_before b n x changes (omega arith)) (simp (ne_eqb x a e))
    ]
    | no lo ↦ rw (begins_past a n x changes (omega arith)) (simp (ne_eqb x a (λ e. omega arith)) (elim (dec_le x b) [
      | yes hi ↦ elim (ℕ_discrete x b) [
        | yes e ↦ begins_first b n x changes e ∙ at_end e
        | no e ↦ begins_before b n x changes (omega arith)
            ∙ sym (ap (λ (o : Bool). ltb x n && o) (within (omega arith) (omega arith)) ∙ and-false (ltb x n))
      ]
      | no hi ↦ begins_past b n x changes (omega arith)
    ]))
  ]
    where
      at_end : x ≡ b → ltb x n ≡ (ltb x n && changes)
      at_end e = elim (dec_le (suc b) n) [
        | yes lt ↦ rw (next e lt) (sym (and-true (ltb x n)))
        | no lt ↦ simp (le-ltb x n (omega arith))
      ]

cuts : (f : ℕ → Part) (n a : ℕ) (ps : List Piece) → Parted f n a n ps → (x : ℕ) →
    some (λ (p : Piece). eqb x p.from) ps ≡ begins a n x (not (same_part (f (x - 1)) (f x)))
unfolding some
cuts f n a [] e x = elim (dec_le (suc x) a) [
  | yes p ↦ sym (begins_before a n x (not (same_part (f (x - 1)) (f x))) p)
  | no p ↦ simp (le-ltb x n (omega (arith, e)))
]
cuts f n a (p ∷ ps) e x =
    ap (λ (b : Bool). eqb x p.from || b) (cuts f n p.to ps e.4 x)
    ∙ ap (λ (i : ℕ). eqb x i || begins p.to n x (not (same_part (f (x - 1)) (f x)))) e.0
    ∙ first_or f n a p.to x e.1 (parted_order f n p.to n ps e.4) e.2 e.3

-- ---- the parts of a course

abbrev part : ℕ → ℕ → Part
part k w = record { kind = k; stop = w }

module _ (h : Heading) (l : Lists) (t : ℕ) where
  part_hold : (v n : ℕ) → 0 < n → part_from h l t (at v n) ≡ part 3 v
  unfolding part_from
  part_hold v n p = simp (lt-ltb 0 n p)

  part_rest : part_from h l t (at t 0) ≡ part 4 t
  unfolding part_from
  part_rest = simp (eq-eqb t t refl)

  part_run : (v : ℕ) → Past h v t → rate_at h l v ≤ gap v (next_stop h l t v) → part_from h l t (at v 0) ≡ part 1 (next_stop h l t v)
  unfolding part_from
  part_run v p q = simp (ne_eqb v t (past_not h v t p), le-leb (rate_at h l v) (gap v (next_stop h l t v)) q)

  part_short : (v : ℕ) → Past h v t → gap v (next_stop h l t v) < rate_at h l v → part_from h l t (at v 0) ≡ part 2 (next_stop h l t v)
  unfolding part_from
  part_short v p q = simp (ne_eqb v t (past_not h v t p), lt-leb (rate_at h l v) (gap v (next_stop h l t v)) q)

  -- a level with no hold left: at rest, or on the way to a stop past it
  part_onward : (w : ℕ) → Short h t w → (q : Part) → q.stop ≡ w → (q.kind ≡ 4 → ⊥) → same_part q (part_from h l t (at w 0)) ≡ false
  unfolding same_part
  part_onward w p q e k = elim (ℕ_discrete w t) [
    | yes z ↦ rw (z, part_rest) (simp (ne_eqb q.kind 4 k))
    | no z ↦
        let x : Past h w t = short_past h t w p z in
        let v : ℕ = next_stop h l t w in
        let away : eqb q.stop v ≡ false = ne_eqb q.stop v (λ y. past_not h w v (next_past h l t w x).0 (sym e ∙ y)) in
        elim (dec_le (rate_at h l w) (gap w v)) [
          | yes y ↦ rw (part_run w x y) (simp away (and-false (eqb q.kind 1)))
          | no y ↦ rw (part_short w x (omega arith)) (simp away (and-false (eqb q.kind 2)))
        ]
  ]

  -- where the level comes to a stop, the part that led to it ends
  part_stop : (w d k : ℕ) → Short h t w → k ≤ 2 → same_part (part k w) (part_from h l t (at w d)) ≡ false
  unfolding same_part
  part_stop w zero k p q = part_onward w p (part k w) refl (λ e. omega arith)
  part_stop w (suc d) k p q = rw (part_hold w (suc d) (omega arith)) (simp (ne_eqb k 3 (λ e. omega arith)))

  -- from v, short of the target, up to its next stop and through the hold there
  module _ (v : ℕ) (p : Past h v t) (some_rate : 1 ≤ rate_at h l v) where
    abbrev rate : ℕ
    rate = rate_at h l v

    abbrev stop : ℕ
    stop = next_stop h l t v

    abbrev way : ℕ
    way = gap v stop

    abbrev leg : Segment
    leg = record { way = way; rate = rate; hold = hold_at h l t stop }

    leg_valid : SegmentValid leg
    leg_valid = record { some_way = gap_some v stop h (next_past h l t v p).0; some_rate = some_rate }

    abbrev there : ℕ → ℕ
    there i = toward h v (i * rate)

    at_run : (i : ℕ) → i < way / rate → part_from h l t (after h l t i (at v 0)) ≡ part 1 stop
    at_run i q =
        let more : i * rate + rate ≤ way = omega (arith, full_low leg [] leg_valid, mul-le-mul_right {m = suc i} {n = way / rate} rate q) in
        let u = under h l t v p some_rate i (omega arith) in
        ap (part_from h l t) (short_of h l t v p some_rate i (omega arith))
        ∙ part_run (there i) u.past (omega (arith, u.even, u.left)) ∙ ap (part 1) u.next

    at_short : seconds leg ≡ way / rate + 1 → part_from h l t (after h l t (way / rate) (at v 0)) ≡ part 2 stop
    at_short e =
        let i : ℕ = way / rate in
        let lo : i * rate < way = omega (arith, seconds_high leg some_rate, ap (λ (n : ℕ). n * rate) e) in
        let hi : way < i * rate + rate = omega (arith, div-add-mod' way rate, mod-lt way some_rate) in
        let u = under h l t v p some_rate i lo in
        ap (part_from h l t) (short_of h l t v p some_rate i lo)
        ∙ part_short (there i) u.past (omega (arith, u.even, u.left)) ∙ ap (part 2) u.next

    at_stop : after h l t (seconds leg) (at v 0) ≡ at stop (hold_at h l t stop)
    unfolding after
    at_stop =
        let s : ℕ = seconds leg - 1 in
        let e : seconds leg ≡ suc s = omega (arith, seconds_some leg leg_valid.some_way some_rate) in
        let m : seconds leg * rate ≡ s * rate + rate = ap (λ (n : ℕ). n * rate) e ∙ omega arith in
        let lo : s * rate < way = omega (arith, seconds_high leg some_rate) in
        let u = under h l t v p some_rate s lo in
        ap (λ (n : ℕ). after h l t n (at v 0)) e ∙ ap (second h l t) (short_of h l t v p some_rate s lo)
        ∙ second_stop h l t (there s) u.past (omega (arith, u.even, u.left, seconds_low leg some_rate))
        ∙ ap (λ (w : ℕ). at w (hold_at h l t w)) u.next

    at_hold : (j : ℕ) → j ≤ hold_at h l t stop → after h l t (seconds leg + j) (at v 0) ≡ at stop (hold_at h l t stop - j)
    at_hold j q = after_add h l t (seconds leg) j (at v 0) ∙ ap (after h l t j) at_stop ∙ holds h l t j stop (hold_at h l t stop) q

  -- f the part at each second from a on, of a course that is at v there
  abbrev From : (ℕ → Part) → ℕ → ℕ → ℕ → Type 0
  From f n a v = a < n → (k j : ℕ) → k ≡ a + j → f k ≡ part_from h l t (after h l t j (at v 0))

  -- its three pieces from the second a, cut at n; and how it goes on after them
  module _ (f : ℕ → Part) (n a v full reached held : ℕ) (p : Past h v t) (some_rate : 1 ≤ rate_at h l v) (le : a ≤ n)
      (is-full : full ≡ min (way v p some_rate / rate v p some_rate) (n - a)) (is-reached : reached ≡ min (a + seconds (leg v p some_rate)) n)
      (is_held_lem : held ≡ min (a + (seconds (leg v p some_rate) + hold_at h l t (stop v p some_rate))) n)
      (g : From f n a v) where
    abbrev one : Segment
    one = leg v p some_rate

    abbrev to : ℕ
    to = stop v p some_rate

    short_to : Short h t to
    short_to = (next_past h l t v p).1

    -- the full seconds and all seconds
    order : (one.way / one.rate ≤ seconds one) × (seconds one ≤ one.way / one.rate + 1)
    order = full_seconds one [] (leg_valid v p some_rate)

    -- at the stop, the run and the shorter last second are over
    over : (k i : ℕ) → k ≤ 2 → i ≡ a + seconds one → a < n → same_part (part k to) (f i) ≡ false
    over k i q e lt =
        ap (same_part (part k to)) (g lt i (seconds one) e ∙ ap (part_from h l t) (at_stop v p some_rate))
        ∙ part_stop to one.hold k short_to q

    run_part : (u w : ℕ) → Parted f n a (a + full) (piece a (a + full) u w)
    unfolding same_part
    run_part u w = one_part f n a (a + full) u w (part 1 to) (omega arith) (λ q. (
      λ i lo hi. g (omega arith) i (i - a) (omega arith) ∙ at_run v p some_rate (i - a) (omega arith),
      λ lt. elim (ℕ_discrete (seconds one) full) [
        | yes e ↦ over 1 (a + full) (omega arith) (omega arith) (omega arith)
        | no e ↦ ap (same_part (part 1 to)) (g (omega arith) (a + full) (one.way / one.rate) (omega arith)
            ∙ at_short v p some_rate (omega (arith, order)))
      ],
    ))

    short_part : (u w : ℕ) → Parted f n (a + full) reached (piece (a + full) reached u w)
    short_part u w = one_part f n (a + full) reached u w (part 2 to) (omega (arith, order)) (λ q. (
      λ i lo hi. g (omega arith) i (one.way / one.rate) (omega (arith, order)) ∙ at_short v p some_rate (omega (arith, order)),
      λ lt. over 2 reached (omega arith) (omega arith) (omega arith),
    ))

    onward : From f n held to
    onward lt k j e =
        let d : ℕ = one.hold in
        let none : d - d ≡ 0 = omega arith in
        let s : ℕ = seconds one + d in
        g (omega arith) k (s + j) (omega arith)
        ∙ ap (part_from h l t) (after_add h l t s j (at v 0)
        ∙ ap (after h l t j) (at_hold v p some_rate d (omega arith) ∙ ap (at to) none))

    hold_part : (u w : ℕ) → Parted f n reached held (piece reached held u w)
    unfolding after
    hold_part u w = one_part f n reached held u w (part 3 to) (omega arith) (λ q. (
      λ i lo hi. g (omega arith) i (seconds one + (i - reached)) (omega arith)
          ∙ ap (part_from h l t) (at_hold v p some_rate (i - reached) (omega arith))
          ∙ part_hold to (one.hold - (i - reached)) (omega arith),
      λ lt. ap (same_part (part 3 to)) (onward lt held 0 (omega arith)) ∙ part_onward to short_to (part 3 to) refl (λ e. omega arith),
    ))

  rests : (f : ℕ → Part) (n m a v u : ℕ) → v ≡ t → a ≤ n → From f n a v →
      Parted f n a n (pieces_of h n a u (segments_of h l t v (stops_from h l t m v)))
  unfolding pieces_of
  rests f n m a v u e le g = rw (e, segments_none h l t m) (one_part f n a n u u (part 4 t) le (λ q. (
    λ i lo hi. g q i (i - a) (omega arith) ∙ ap (λ (w : ℕ). part_from h l t (after h l t (i - a) (at w 0))) e
        ∙ ap (part_from h l t) (after_rest_lem h l t (i - a)) ∙ part_rest,
    λ lt. absurd (omega arith),
  )))

  -- all its pieces from there, whatever level u they are given
  parted : (f : ℕ → Part) (n : ℕ) → ((v : ℕ) → 1 ≤ rate_at h l v) → (m a v u : ℕ) → Short h t v → ahead h v (candidates h l t) ≤ m → a ≤ n →
      From f n a v → Parted f n a n (pieces_of h n a u (segments_of h l t v (stops_from h l t m v)))
  unfolding pieces_of
  parted f n some zero a v u p q le g = elim (ℕ_discrete v t) [
    | yes e ↦ rests f n 0 a v u e le g
    | no e ↦ absurd (omega (arith, next_fewer h l t v (short_past h t v p e)))
  ]
  parted f n some (suc m) a v u p q le g = elim (ℕ_discrete v t) [
    | yes e ↦ rests f n (suc m) a v u e le g
    | no e ↦
        let z : Past h v t = short_past h t v p e in
        let s : Segment = leg v z (some v) in
        let full : ℕ = min (s.way / s.rate) (n - a) in
        let near : ℕ = toward h u (full * s.rate) in
        let on : ℕ = toward h u s.way in
        let reached : ℕ = min (a + seconds s) n in
        let held : ℕ = min (a + (seconds s + s.hold)) n in
        let two : List Piece = piece (a + full) reached near on in
        let three : List Piece = piece reached held on on in
        let w : ℕ = next_stop h l t v in
        let more : List Piece = pieces_of h n held on (segments_of h l t w (stops_from h l t m w)) in
        rw (segments_more h l t m v z (some v))
        (parted_append f n a (a + full) n (piece a (a + full) u near) (two ++ (three ++ more))
        (run_part f n a v full reached held z (some v) le refl refl refl g u near)
        (parted_append f n (a + full) reached n two (three ++ more) (short_part f n a v full reached held z (some v) le refl refl refl g near on)
        (parted_append f n reached held n three more (hold_part f n a v full reached held z (some v) le refl refl refl g on on)
        (parted f n some m held w on (next_past h l t v z).1 (omega (arith, next_fewer h l t v z)) (omega arith)
        (onward f n a v full reached held z (some v) le refl refl refl g)))))
  ]

-- of a course that lasts from the second a to the second n, a piece begins where the course does, and where its part changes, and nowhere else
pub pieces_cut : (c : Trajectory) → Driven c.lists → (a n : ℕ) → a ≤ n → (x : ℕ) →
    some (λ (p : Piece). eqb x p.from) (pieces_in c a n) ≡ (ltb x n && (eqb x a || (ltb a x && part_changes c (x - a))))
unfolding pieces_in segments stops part_changes part_on moment_at
pieces_cut c d a n le x =
    let h : Heading = heading c in
    let l : Lists = c.lists in
    let t : ℕ = c.target in
    let own : ℕ → Part = λ k. part_from h l t (after h l t k (at c.start 0)) in
    let f : ℕ → Part = λ k. own (k - a) in
    let m : ℕ = length (candidates h l t) in
    cuts f n a (pieces_of h n a c.start (segments_of h l t c.start (stops_from h l t m c.start)))
    (parted h l t f n (rate_some h l d) m a c.start c.start (short_start c) (enough c) le
    (λ q k j e. ap own {x = k - a} {y = j} (omega arith))) x
    ∙ ap (λ (i : ℕ). begins a n x (not (same_part (own i) (f x)))) {x = x - 1 - a} {y = x - a - 1} (omega arith)
