-- A course has at most 32 pieces: two for each stop, one for each hold, one for the rest.
use mathlib.Core.Path.{◌≡◌, refl, ap}
use mathlib.Core.List.{List, [], ◌∷◌}
use mathlib.Core.Bool.{Bool, true, false, ◌||◌}
use Prim.Native.Nat.{ℕ, suc, ◌+◌, ◌*◌, ◌-◌, ◌/◌, min, ◌≤◌}
use native.Mathlib.Decide.{ℕ_discrete}
use native.Mathlib.Omega.{arith}
use lib.Dec.{leb, ltb, eqb}
use lib.ListN.{length, length-append}
use borrow.Author.Tests.{lt-ltb, le-ltb, eq-eqb, ne_eqb, ltb-true, ltb-false}
use Rattle.level.specs.Choice.{pick}
use Rattle.level.specs.Lists.{those}
use Rattle.course.specs.declared.Segment.{Segment}
use Rattle.course.specs.Pieces.{seconds, piece, pieces_of, pieces_in}
use Rattle.records.specs.declared.Trigger.{Trigger}
use Rattle.course.specs.declared.Piece.{Piece}
use Rattle.course.specs.Lists.{Lists}
use Rattle.course.specs.declared.Heading.{Heading}
use Rattle.course.specs.declared.Heading.TheVariants.{Rising, Falling}
use Rattle.course.specs.Course.{heading, Trajectory, toward, gap, rate_at, triggers, holding, hold_at, stops, segments_of, segments}
use Rattle.course.specs.Headings.{Short}
use Rattle.course.proofs.Whole.{Shaped, counting_length, segments_fewer, at_most_thirteen_stops}
use Rattle.course.proofs.Stops.{Ordered, stops_ordered}

-- ---- pieces of segments

-- the segments that end in a hold
unfoldable pub holds : List Segment → ℕ
holds [] = 0
holds (l ∷ ls) = pick (eqb l.hold 0) 0 1 + holds ls

piece_one : (a b v w : ℕ) → length (piece a b v w) ≤ 1
unfolding piece
piece_one a b v w = go (ltb a b)
  where
    go : (t : Bool) → (let p : Piece = record { from = a; to = b; enter = v; leave = w } in length (pick t (p ∷ []) [])) ≤ 1
    go true = omega arith
    go false = omega arith

piece_none : (a b v w : ℕ) → b ≤ a → length (piece a b v w) ≡ 0
unfolding piece
piece_none a b v w h = rw (le-ltb a b h) refl

-- a hold of 0 seconds gives no piece
hold_piece : (a n v s h : ℕ) → length (piece (min (a + s) n) (min (a + (s + h)) n) v v) ≤ pick (eqb h 0) 0 1
hold_piece a n v s h = elim (ℕ_discrete h 0) [
  | yes e ↦ rw (eq-eqb h 0 e) (omega (arith, piece_none (min (a + s) n) (min (a + (s + h)) n) v v (omega arith)))
  | no e ↦ rw (ne_eqb h 0 e) (piece_one (min (a + s) n) (min (a + (s + h)) n) v v)
]

pub pieces_count : (h : Heading) (n a v : ℕ) (ls : List Segment) → length (pieces_of h n a v ls) ≤ 2 * length ls + holds ls + 1
unfolding pieces_of holds
pieces_count h n a v [] = omega (arith, piece_one a n v v)
pieces_count h n a v (l ∷ ls) =
    let full : ℕ = min (l.way / l.rate) (n - a) in
    let near : ℕ = toward h v (full * l.rate) in
    let stop : ℕ = toward h v l.way in
    let reached : ℕ = min (a + seconds l) n in
    let end : ℕ = min (a + (seconds l + l.hold)) n in
    simp length-append
    (sums (length (piece a (a + full) v near)) (length (piece (a + full) reached near stop)) (length (piece reached end stop stop))
    (length (pieces_of h n end stop ls)) (pick (eqb l.hold 0) 0 1) (length ls) (holds ls)
    (piece_one a (a + full) v near) (piece_one (a + full) reached near stop) (hold_piece a n stop (seconds l) l.hold)
    (pieces_count h n end stop ls))
  where
    sums : (a b c d p m q : ℕ) → a ≤ 1 → b ≤ 1 → c ≤ p → d ≤ 2 * m + q + 1 → a + (b + (c + d)) ≤ 2 * suc m + (p + q) + 1
    sums a b c d p m q w x y z = omega arith

-- ---- holds of stops: each trigger gives at most one

-- those that pass a test, against those that pass one of two others
either_length : (f g k : ℕ → Bool) → ((w : ℕ) → f w ≡ true → (g w || k w) ≡ true) → (ws : List ℕ) →
    length (those f ws) ≤ length (those g ws) + length (those k ws)
unfolding those
either_length f g k h [] = omega arith
either_length f g k h (w ∷ ws) = go (f w) (g w) (k w) (h w) (either_length f g k h ws)
  where
    go : (a b c : Bool) → (a ≡ true → (b || c) ≡ true) → length (those f ws) ≤ length (those g ws) + length (those k ws) →
        length (pick a (w ∷ those f ws) (those f ws)) ≤ length (pick b (w ∷ those g ws) (those g ws)) + length (pick c (w ∷ those k ws) (those k ws))
    go true true true e ih = omega arith
    go true true false e ih = omega arith
    go true false true e ih = omega arith
    go true false false e ih = absurd (let z : ◌≡◌ {A = ℕ} 0 1 = ap (λ (b : Bool). pick b 1 0) (e refl) in omega arith)
    go false true true e ih = omega arith
    go false true false e ih = omega arith
    go false false true e ih = omega arith
    go false false false e ih = omega arith

-- a level that none of the later stops can be
none_equal : (h : Heading) (x v : ℕ) (ws : List ℕ) → Short h v x → Ordered h v ws → length (those (λ w. eqb x w) ws) ≡ 0
unfolding those
none_equal h x v [] s o = refl
none_equal Rising x v (w ∷ ws) s o = rw (ne_eqb x w (λ e. omega (arith, o.0))) (none_equal Rising x w ws (omega (arith, o.0)) o.1)
none_equal Falling x v (w ∷ ws) s o = rw (ne_eqb x w (λ e. omega (arith, o.0))) (none_equal Falling x w ws (omega (arith, o.0)) o.1)

one_equal : (h : Heading) (x v : ℕ) (ws : List ℕ) → Ordered h v ws → length (those (λ w. eqb x w) ws) ≤ 1
unfolding those
one_equal h x v [] o = omega arith
one_equal h x v (w ∷ ws) o = elim (ℕ_discrete x w) [
  | yes e ↦ rw (eq-eqb x w e) (omega (arith, none_equal h x w ws (itself h e) o.1))
  | no e ↦ rw (ne_eqb x w e) (one_equal h x w ws o.1)
]
  where
    itself : (h : Heading) → x ≡ w → Short h w x
    itself Rising e = omega arith
    itself Falling e = omega arith

nothing : (ws : List ℕ) → length (those (λ w. ltb 0 0) ws) ≡ 0
unfolding those
nothing [] = refl
nothing (w ∷ ws) = nothing ws

pub hold_stops : (h : Heading) (v : ℕ) (ws : List ℕ) → Ordered h v ws → (gs : List Trigger) →
    length (those (λ w. ltb 0 (holding w gs)) ws) ≤ length gs
unfolding holding
hold_stops h v ws o [] = omega (arith, nothing ws)
hold_stops h v ws o (g ∷ gs) =
    let ih = hold_stops h v ws o gs in
    let one = one_equal h g.level v ws o in
    let e = either_length (λ w. ltb 0 (holding w (g ∷ gs))) (λ w. eqb g.level w) (λ w. ltb 0 (holding w gs)) splits ws in
    omega arith
  where
    splits : (w : ℕ) → ltb 0 (pick (eqb g.level w) (g.minutes * 60) 0 + holding w gs) ≡ true → (eqb g.level w || ltb 0 (holding w gs)) ≡ true
    splits w = go (eqb g.level w)
      where
        go : (b : Bool) → ltb 0 (pick b (g.minutes * 60) 0 + holding w gs) ≡ true → (b || ltb 0 (holding w gs)) ≡ true
        go true e = refl
        go false e = lt-ltb 0 (holding w gs) (omega (arith, ltb-true 0 (0 + holding w gs) e))

no_hold : (h : Heading) (l : Lists) (t w : ℕ) → ltb 0 (holding w (triggers h l)) ≡ false → hold_at h l t w ≡ 0
unfolding hold_at
no_hold h l t w e =
    let z : holding w (triggers h l) ≡ 0 = omega (arith, ltb-false 0 (holding w (triggers h l)) e) in
    elim (ℕ_discrete w t) [ yes q ↦ rw (eq-eqb w t q) (omega (arith, z)) | no q ↦ rw (ne_eqb w t q) (omega (arith, z)) ]

-- the holds of a course's segments
module _ (h : Heading) (l : Lists) (t : ℕ) where
  holds_most : (v : ℕ) (ws : List ℕ) → holds (segments_of h l t v ws) ≤ length (those (λ w. ltb 0 (holding w (triggers h l))) ws)
  unfolding segments_of holds those
  holds_most v [] = omega arith
  holds_most v (w ∷ ws) = go (eqb (rate_at h l v) 0) (ltb 0 (holding w (triggers h l))) refl (holds_most w ws)
    where
      one : (b : Bool) → ltb 0 (holding w (triggers h l)) ≡ b → pick (eqb (hold_at h l t w) 0) 0 1 ≤ pick b 1 0
      one true e = go' (eqb (hold_at h l t w) 0)
        where
          go' : (c : Bool) → pick c 0 1 ≤ 1
          go' true = omega arith
          go' false = omega arith
      one false e = rw (eq-eqb (hold_at h l t w) 0 (no_hold h l t w e)) (omega arith)

      go : (a b : Bool) → ltb 0 (holding w (triggers h l)) ≡ b →
          holds (segments_of h l t w ws) ≤ length (those (λ w. ltb 0 (holding w (triggers h l))) ws) →
          holds (pick a [] (record { way = gap v w; rate = rate_at h l v; hold = hold_at h l t w } ∷ segments_of h l t w ws)) ≤
          length (pick b (w ∷ those (λ w. ltb 0 (holding w (triggers h l))) ws) (those (λ w. ltb 0 (holding w (triggers h l))) ws))
      go true b e ih = omega arith
      go false true e ih = omega (arith, one true e)
      go false false e ih = omega (arith, one false e)

triggers_five : (h : Heading) (l : Lists) → Shaped l → length (triggers h l) ≤ 5
unfolding triggers
triggers_five Rising l s =
    simp length-append (omega (
      arith,
      counting_length (λ v. ltb v l.msg) l.soaks,
      counting_length (λ v. leb l.msg v) l.dwells,
      s.soaks,
      s.dwells,
    ))
triggers_five Falling l s = omega (arith, counting_length (λ v. leb l.msg v) l.dwells, s.dwells)

pub at_most_thirty_two_pieces : (c : Trajectory) → Shaped c.lists → (a n : ℕ) → length (pieces_in c a n) ≤ 32
unfolding pieces_in segments
at_most_thirty_two_pieces c s a n =
    omega (
      arith,
      pieces_count (heading c) n a c.start (segments c),
      segments_fewer (heading c) c.lists c.target c.start (stops c),
      at_most_thirteen_stops c s,
      holds_most (heading c) c.lists c.target c.start (stops c),
      hold_stops (heading c) c.start (stops c) (stops_ordered c) (triggers (heading c) c.lists),
      triggers_five (heading c) c.lists s,
    )
