-- The pieces left: each step along a course gives the first of them.
use Prim.Native.Nat.{ℕ, zero, suc, ◌+◌, ◌*◌, ◌-◌, ◌/◌, min, ◌≤◌, ◌<◌}
use mathlib.Core.Path.{◌≡◌, refl, ap, sym, ◌∙◌}
use mathlib.Core.List.{List, [], ◌∷◌, ◌++◌}
use mathlib.Core.Bool.{Bool}
use native.Mathlib.Nat.{div-add-mod', mod-lt, div-eq_of_lt, div-eq_of_lt-le, le_of_mul-le-mul_right}
use native.Mathlib.Decide.{dec_le, ℕ_discrete}
use native.Mathlib.Omega.{arith}
use lib.Dec.{eqb}
use lib.ListN.{length}
use borrow.Author.Tests.{lt-ltb, le-ltb, eq-eqb, ne_eqb}
use Rattle.level.specs.Choice.{pick}
use Rattle.course.specs.declared.Segment.{Segment}
use Rattle.course.specs.Pieces.{seconds, piece, pieces_of, pieces_in}
use Rattle.course.proofs.Segments.{seconds_low}
use Rattle.records.specs.declared.UnitData.{UnitData}
use Rattle.course.specs.declared.Course.{Course}
use Rattle.course.specs.Lists.{Lists}
use Rattle.course.specs.declared.Heading.{Heading}
use Rattle.course.specs.Course.{heading, trajectory_of, stops, segments, toward, gap, rate_at, candidates, next_stop, hold_at, stops_from, segments_of}
use Rattle.course.specs.declared.Piece.{Piece}
use Rattle.course.specs.Headings.{Past, Short}
use Rattle.course.proofs.Near.{short_past, past_on, those_length, ahead, gap_some, gap_to, gap_left, toward_add, toward_zero}
use Rattle.course.proofs.Ahead.{rate_same, next_same, next_past, next_fewer}
use Rattle.course.proofs.Rule.{segments_more, segments_stuck, segments_none}
use Rattle.course_walk.specs.declared.Place.{Place}
use Rattle.course_rates.specs.declared.Route.{Route}
use Rattle.course_rates.specs.Ways.{lists_in, route_of, target_of}
use Rattle.course_stops.specs.Ahead.{segment_to, segment_from}
use Rattle.course_walk.specs.Walk.{beginning, piece_between, after_hold, after_rest, after_run, after_short, onward, segments_from, pieces_left}
use Rattle.course_walk.proofs.Courses.{heading_is}
use Rattle.course_walk.proofs.Onward.{full_way, full_some, onward_cases}

-- ---- the segments from a level
module _ (h : Heading) (l : Lists) (t : ℕ) where
  abbrev fewer : ℕ → ℕ
  fewer v = ahead h v (candidates h l t)

  -- as many stops as lie ahead are all of them
  stops_enough : (n v : ℕ) → Short h t v → fewer v ≤ n → stops_from h l t (suc n) v ≡ stops_from h l t n v
  unfolding stops_from
  stops_enough zero v sh le = elim (ℕ_discrete v t) [
    | yes e ↦ simp (eq-eqb v t e)
    | no e ↦ absurd (omega (arith, next_fewer h l t v (short_past h t v sh e)))
  ]
  stops_enough (suc n) v sh le = elim (ℕ_discrete v t) [
    | yes e ↦ simp (eq-eqb v t e)
    | no e ↦
        let p : Past h v t = short_past h t v sh e in
        let w : ℕ = next_stop h l t v in
        ap (λ (vs : List ℕ). pick (eqb v t) [] (w ∷ vs)) (stops_enough n w (next_past h l t v p).1 (omega (arith, next_fewer h l t v p)))
  ]

  enough : (v : ℕ) → fewer v ≤ length (candidates h l t)
  unfolding ahead
  enough v = those_length _ (candidates h l t)

  more : (n v : ℕ) → Past h v t → 1 ≤ rate_at h l v → fewer v ≤ n →
      segments_of h l t v (stops_from h l t n v) ≡ segment_from h l t v ∷ segments_of h l t (next_stop h l t v) (stops_from h l t n (next_stop h l t v))
  unfolding segment_from segment_to
  more zero v p some le = absurd (omega (arith, next_fewer h l t v p))
  more (suc n) v p some le =
      let w : ℕ = next_stop h l t v in
      let s : Segment = segment_from h l t v in
      segments_more h l t n v p some
      ∙ ap (λ (vs : List ℕ). s ∷ segments_of h l t w vs) (sym (stops_enough n w (next_past h l t v p).1 (omega (arith, next_fewer h l t v p))))

  pub from_more : (v : ℕ) → Past h v t → 1 ≤ rate_at h l v → segments_from h l t v ≡ segment_from h l t v ∷ segments_from h l t (next_stop h l t v)
  unfolding segments_from
  from_more v p some = more (length (candidates h l t)) v p some (enough v)

  pub from_target : (v : ℕ) → v ≡ t → segments_from h l t v ≡ []
  unfolding segments_from
  from_target v e = rw e (segments_none h l t (length (candidates h l t)))

  pub from_stuck : (v : ℕ) → Past h v t → rate_at h l v ≡ 0 → segments_from h l t v ≡ []
  unfolding segments_from
  from_stuck v p z = segments_stuck h l t (length (candidates h l t)) v p z

-- ---- pieces of segments
some_piece : (a b v w : ℕ) → a < b → piece a b v w ≡ record { from = a; to = b; enter = v; leave = w } ∷ []
unfolding piece
some_piece a b v w p = simp (lt-ltb a b p)

no_piece : (a b v w : ℕ) → b ≤ a → piece a b v w ≡ []
unfolding piece
no_piece a b v w p = simp (le-ltb a b p)

-- past the cut there is none
pieces_none : (h : Heading) (n a v : ℕ) (ls : List Segment) → n ≤ a → pieces_of h n a v ls ≡ []
unfolding pieces_of
pieces_none h n a v [] p = no_piece a n v v p
pieces_none h n a v (s ∷ ls) p =
    let full : ℕ = min (s.way / s.rate) (n - a) in
    let near : ℕ = toward h v (full * s.rate) in
    let stop : ℕ = toward h v s.way in
    let reached : ℕ = min (a + seconds s) n in
    let held : ℕ = min (a + (seconds s + s.hold)) n in
    rw (
      no_piece a (a + full) v near (omega arith),
      no_piece (a + full) reached near stop (omega arith),
      no_piece reached held stop stop (omega arith),
    ) (pieces_none h n held stop ls (omega arith))

-- the whole seconds that a way takes
module _ (s : Segment) (some : 1 ≤ s.rate) where
  abbrev full : ℕ
  full = s.way / s.rate

  pub full_is : (full * s.rate ≤ s.way) × (s.way < full * s.rate + s.rate)
  full_is = omega (arith, div-add-mod' s.way s.rate, mod-lt s.way some)

  pub exactly : (f : ℕ) → f * s.rate ≡ s.way → seconds s ≡ f
  unfolding seconds
  exactly f e = div-eq_of_lt-le {k = f} s.rate {m = s.way + (s.rate - 1)} (omega arith) (omega arith)

  pub one_over : (f : ℕ) → f * s.rate < s.way → s.way < f * s.rate + s.rate → seconds s ≡ f + 1
  unfolding seconds
  one_over f p q = div-eq_of_lt-le {k = f + 1} s.rate {m = s.way + (s.rate - 1)} (omega arith) (omega arith)

  at_least : full ≤ seconds s
  at_least = le_of_mul-le-mul_right {k = s.rate} (omega (arith, seconds_low s some, full_is)) some

-- what follows the full seconds: the hold at the stop, and the segments after it
abbrev hold_on : Heading → ℕ → ℕ → ℕ → ℕ → List Segment → List Piece
hold_on h n a d w ls = piece a (min (a + d) n) w w ++ pieces_of h n (min (a + d) n) w ls

-- a segment that begins at the second a, before the cut
module _ (h : Heading) (n a v : ℕ) (s : Segment) (ls : List Segment) (some : 1 ≤ s.rate) (before : a < n) where
  abbrev stop : ℕ
  stop = toward h v s.way

  -- a way shorter than the rate: one second
  short_pieces : 1 ≤ s.way → s.way < s.rate →
      pieces_of h n a v (s ∷ ls) ≡ record { from = a; to = a + 1; enter = v; leave = stop } ∷ hold_on h n (a + 1) s.hold stop ls
  unfolding pieces_of
  short_pieces p q =
      let full : ℕ = min (s.way / s.rate) (n - a) in
      let near : ℕ = toward h v (full * s.rate) in
      let reached : ℕ = min (a + seconds s) n in
      let held : ℕ = min (a + (seconds s + s.hold)) n in
      let z : s.way / s.rate ≡ 0 = div-eq_of_lt q in
      let one : seconds s ≡ 1 = one_over s some 0 (omega arith) (omega arith) in
      let f : full ≡ 0 = omega arith in
      let e : near ≡ v = ap (λ (k : ℕ). toward h v (k * s.rate)) f ∙ ap (toward h v) {x = 0 * s.rate} {y = 0} (omega arith) ∙ toward_zero h v in
      let r : reached ≡ a + 1 = omega arith in
      let d : held ≡ min (a + 1 + s.hold) n = omega arith in
      rw (no_piece a (a + full) v near (omega arith), r, d) (ap (λ (ps : List Piece). ps ++ hold_on h n (a + 1) s.hold stop ls)
      (some_piece (a + full) (a + 1) near stop (omega arith) ∙ (λ i. record { from = (omega_eq f) i; to = a + 1; enter = e i; leave = stop } ∷ [])))
    where
      omega_eq : {f : ℕ} → f ≡ 0 → a + f ≡ a
      omega_eq e = omega arith

-- f seconds at full rate
module _ (h : Heading) (n a v : ℕ) (s : Segment) (ls : List Segment) (some : 1 ≤ s.rate) (before : a < n)
    (f : ℕ) (is : f ≡ min (s.way / s.rate) (n - a)) (one : 1 ≤ f) where
  abbrev end : ℕ
  end = toward h v s.way

  abbrev near : ℕ
  near = toward h v (f * s.rate)

  abbrev run : Piece
  run = record { from = a; to = a + f; enter = v; leave = near }

  abbrev reached : ℕ
  reached = min (a + seconds s) n

  abbrev held : ℕ
  held = min (a + (seconds s + s.hold)) n

  run_then : pieces_of h n a v (s ∷ ls) ≡ run ∷ (piece (a + f) reached near end ++ (piece reached held end end ++ pieces_of h n held end ls))
  unfolding pieces_of
  run_then = rw (sym is, some_piece a (a + f) v near (omega arith)) refl

  -- all the way
  whole_pieces : f * s.rate ≡ s.way → pieces_of h n a v (s ∷ ls) ≡ run ∷ hold_on h n (a + f) s.hold near ls
  whole_pieces e =
      let secs : seconds s ≡ f = exactly s some f e in
      let r : reached ≡ a + f = omega arith in
      let d : held ≡ min (a + f + s.hold) n = omega arith in
      let same : end ≡ near = ap (toward h v) (sym e) in
      run_then ∙ rw (r, d, same, no_piece (a + f) (a + f) near near (omega arith)) refl

  -- cut before the stop
  cut_pieces : a + f ≡ n → pieces_of h n a v (s ∷ ls) ≡ run ∷ []
  cut_pieces e =
      let r : reached ≡ n = omega (arith, at_least s some) in
      let d : held ≡ n = omega (arith, at_least s some) in
      run_then ∙ rw (r, d, no_piece (a + f) n near end (omega arith), no_piece n n end end (omega arith), pieces_none h n n end ls (omega arith)) refl

  -- a shorter last second is left
  part_pieces : a + f < n → f * s.rate < s.way →
      pieces_of h n a v (s ∷ ls) ≡ run ∷ pieces_of h n (a + f) near (record { way = s.way - f * s.rate; rate = s.rate; hold = s.hold } ∷ ls)
  part_pieces p q =
      let rest : Segment = record { way = s.way - f * s.rate; rate = s.rate; hold = s.hold } in
      let fu : f ≡ s.way / s.rate = omega arith in
      let fe : f * s.rate ≡ s.way / s.rate * s.rate = ap (λ (k : ℕ). k * s.rate) fu in
      let less : s.way < f * s.rate + s.rate = omega (arith, full_is s some) in
      let secs : seconds s ≡ f + 1 = one_over s some f q less in
      let r : reached ≡ a + f + 1 = omega arith in
      let d : held ≡ min (a + f + 1 + s.hold) n = omega arith in
      let e : toward h near rest.way ≡ end = toward_add h v (f * s.rate) rest.way ∙ ap (toward h v) (omega arith) in
      run_then ∙ (rw (r, d, some_piece (a + f) (a + f + 1) near end (omega arith)) (ap (λ (ps : List Piece). run ∷ ps)
      (ap (λ (w : ℕ). record { from = a + f; to = a + f + 1; enter = near; leave = w } ∷ hold_on h n (a + f + 1) s.hold w ls) (sym e)
      ∙ sym (short_pieces h n (a + f) near rest ls some p (omega arith) (omega arith)))))

-- ---- the pieces left from a place
module _ (h : Heading) (l : Lists) (t n : ℕ) where
  -- none from the cut on
  pub left_none : (p : Place) → n ≤ p.second → pieces_left h l t n p ≡ []
  unfolding pieces_left
  left_none p le =
      let b : ℕ = min (p.second + p.left) n in
      rw (no_piece p.second b p.level p.level (omega arith)) (pieces_none h n b p.level (segments_from h l t p.level) (omega arith))

  -- no hold left: those of the segments
  no_hold : (p : Place) → p.second ≤ n → p.left ≤ 0 → pieces_left h l t n p ≡ pieces_of h n p.second p.level (segments_from h l t p.level)
  unfolding pieces_left
  no_hold p le z =
      let e : min (p.second + p.left) n ≡ p.second = omega arith in
      rw (e, no_piece p.second p.second p.level p.level (omega arith)) refl

  module _ (p : Place) (before : p.second < n) (sh : Short h t p.level) where
    -- the first of them, and the others
    abbrev First : Place → Type 0
    First q = pieces_left h l t n p ≡ piece_between p q ∷ pieces_left h l t n q

    hold_first : 0 < p.left → First (after_hold n p)
    unfolding pieces_left piece_between after_hold
    hold_first some =
        let b : ℕ = min (p.second + p.left) n in
        let e : min (b + (p.second + p.left - n)) n ≡ b = omega arith in
        rw (e, some_piece p.second b p.level p.level (omega arith), no_piece b b p.level p.level (omega arith)) refl

    rest_first : p.left ≤ 0 → segments_from h l t p.level ≡ [] → First (after_rest n p)
    unfolding piece_between after_rest pieces_of
    rest_first z e = no_hold p (omega arith) z
        ∙ rw (e, some_piece p.second n p.level p.level before, left_none (after_rest n p) (omega arith)) refl

    -- along the segment to the next stop
    module _ (z : p.left ≤ 0) (ahead : Past h p.level t) (some : 1 ≤ rate_at h l p.level) where
      abbrev v : ℕ
      v = p.level

      abbrev next : ℕ
      next = next_stop h l t v

      abbrev seg : Segment
      seg = segment_from h l t v

      to_next : toward h v (gap v next) ≡ next
      to_next = gap_to v next h (next_past h l t v ahead).0

      begun : pieces_left h l t n p ≡ pieces_of h n p.second v (seg ∷ segments_from h l t next)
      begun = no_hold p (omega arith) z ∙ ap (pieces_of h n p.second v) (from_more h l t v ahead some)

      short_first : gap v next < rate_at h l v → First (after_short h p seg)
      unfolding pieces_left piece_between after_short segment_from segment_to
      short_first q =
          begun ∙ short_pieces h n p.second v seg (segments_from h l t next) some before (gap_some v next h (next_past h l t v ahead).0) q
          ∙ ap (λ (w : ℕ). piece_between p (after_short h p seg) ∷ hold_on h n (p.second + 1) seg.hold (toward h v seg.way)
          (segments_from h l t w)) (sym to_next)

      module _ (f : ℕ) (is : f ≡ min (gap v next / rate_at h l v) (n - p.second)) (one : 1 ≤ f) where
        abbrev there : Place
        there = after_run h f p seg

        whole_first : f * rate_at h l v ≡ gap v next → First there
        unfolding pieces_left piece_between after_run segment_from segment_to
        whole_first e = begun ∙ whole_pieces h n p.second v seg (segments_from h l t next) some before f is one e
            ∙ (rw (eq-eqb (f * rate_at h l v) (gap v next) e)
            (ap (λ (w : ℕ). piece_between p there ∷ hold_on h n (p.second + f) seg.hold (toward h v (f * rate_at h l v)) (segments_from h l t w))
            (sym (ap (toward h v) e ∙ to_next))))

        cut_first : p.second + f ≡ n → First there
        unfolding piece_between after_run segment_from segment_to
        cut_first e = begun ∙ cut_pieces h n p.second v seg (segments_from h l t next) some before f is one e
            ∙ ap (λ (ps : List Piece). piece_between p there ∷ ps) (sym (left_none there (omega arith)))

        part_first : p.second + f < n → f * rate_at h l v < gap v next → First there
        unfolding piece_between after_run segment_from segment_to
        part_first lt q =
            let x : ℕ = toward h v (f * rate_at h l v) in
            let m = next_past h l t v ahead in
            let on = gap_left v next h (f * rate_at h l v) m.0 q in
            let same : next_stop h l t x ≡ next = next_same h l t v x on.1 on.0 in
            let even : rate_at h l x ≡ rate_at h l v = rate_same h l t v x on.1 on.0 in
            let rest : Segment = record { way = gap v next - f * rate_at h l v; rate = rate_at h l v; hold = hold_at h l t next } in
            let segs : segments_from h l t x ≡ rest ∷ segments_from h l t next =
            from_more h l t x (past_on h x next t on.0 m.1) (omega arith) ∙ rw (same, even, on.2) refl in
            let none : there.left ≡ 0 = ap (λ (b : Bool). pick b seg.hold 0) (ne_eqb (f * rate_at h l v) (gap v next) (λ e. omega arith)) in
            begun ∙ part_pieces h n p.second v seg (segments_from h l t next) some before f is one lt q
            ∙ ap (λ (ps : List Piece). piece_between p there ∷ ps)
            (sym (no_hold there (omega arith) (omega arith) ∙ ap (pieces_of h n (p.second + f) x) segs))

      run_first : rate_at h l v ≤ gap v next → First (after_run h (min (gap v next / rate_at h l v) (n - p.second)) p seg)
      run_first le =
          let f : ℕ = min (gap v next / rate_at h l v) (n - p.second) in
          let one : 1 ≤ f = omega (arith, full_some (gap v next) (rate_at h l v) some le) in
          let fw : f * rate_at h l v ≤ gap v next = full_way (gap v next) (rate_at h l v) f (omega arith) in
          elim (ℕ_discrete (f * rate_at h l v) (gap v next)) [
            | yes e ↦ whole_first f refl one e
            | no e ↦ elim (ℕ_discrete (p.second + f) n) [ yes c ↦ cut_first f refl one c | no c ↦ part_first f refl one (omega arith) (omega arith) ]
          ]

    -- the next step gives the first piece
    pub onward_first : pieces_left h l t n p ≡ piece_between p (onward h l t n p) ∷ pieces_left h l t n (onward h l t n p)
    onward_first = onward_cases h l t n p sh First hold_first (λ none e. rest_first none (from_target h l t p.level e))
        (λ none past z. rest_first none (from_stuck h l t p.level past z)) (λ none past some lt. short_first none past some lt)
        (λ none past some le. run_first none past some le)

-- those from a course's beginning are the pieces of the course
pub all_left : (u : UnitData) (r : Route) → r ≡ route_of u r.course → (a n : ℕ) →
    pieces_left r.heading (lists_in u r.course) (target_of r) n (beginning r.course a) ≡ pieces_in (trajectory_of u r.course) a n
unfolding pieces_in segments stops trajectory_of beginning segments_from
all_left u r own a n =
    let c : Course = r.course in
    let h : Heading = r.heading in
    let l : Lists = lists_in u c in
    let t : ℕ = target_of r in
    let v : ℕ = c.start.grains in
    let e : heading (trajectory_of u c) ≡ h = heading_is u r own in
    elim (dec_le a n) [
      | yes le ↦ no_hold h l t n (beginning c a) le (omega arith) ∙ ap (λ (k : Heading). pieces_of k n a v (segments_from k l t v)) (sym e)
      | no le ↦ left_none h l t n (beginning c a) (omega arith)
          ∙ sym (pieces_none (heading (trajectory_of u c)) n a v (segments (trajectory_of u c)) (omega arith))
    ]
