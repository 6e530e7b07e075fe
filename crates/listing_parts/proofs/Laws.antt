-- What is left to print of each kind of line, and which line comes next.
use Prim.Native.Nat.{ℕ, zero, suc, ◌+◌, ◌-◌, min, ◌≤◌, ◌<◌}
use mathlib.Core.Path.{◌≡◌, refl, sym, ap, ◌∙◌}
use mathlib.Core.Bool.{Bool, true, false, not, ◌&&◌}
use mathlib.Core.List.{List, [], ◌∷◌, ◌++◌, append_assoc, append-nil}
use native.Mathlib.Omega.{arith}
use native.Mathlib.Numerals.{add-one}
use lib.ListN.{length, get_or, take, drop, drop_of_length-le}
use lib.Seq.{drop-cons}
use lib.Dec.{eqb}
use borrow.Author.Tests.{eq-eqb, ne_eqb, eqb-true, eqb-false, not-true, not-false}
use Rattle.std.proofs.Common.{Option, Some, None, MatchOption, is_some, slice_get, unwrap_or, true≢false, length-drop}
use Rattle.std.proofs.lemmas.List.{take_min}
use Rattle.std.proofs.lemmas.Option.{slice_get_within}
use Rattle.std.proofs.Math.Seq.{take-length}
use Rattle.level.specs.Lists.{list_from}
use Rattle.level.specs.Numbers.{course_places}
use Rattle.level.proofs.Lists.{by_bool}
use Rattle.records.specs.declared.UnitData.{UnitData}
use Rattle.course.specs.declared.Course.{Course}
use Rattle.course.specs.declared.Piece.{Piece}
use Rattle.course.specs.Lists.{Lists}
use Rattle.course.specs.declared.Heading.{Heading}
use Rattle.course.specs.Course.{trajectory_of}
use Rattle.course.specs.Pieces.{pieces_in}
use Rattle.course.specs.Headings.{Short}
use Rattle.profile.specs.Profile.{begin_of, spans_of, day_pieces, rounded}
use Rattle.profile.specs.Finding.{quantity_at}
use Rattle.course_rates.specs.declared.Route.{Route}
use Rattle.course_walk.specs.declared.Place.{Place}
use Rattle.course_walk.specs.declared.Reached.{Reached}
use Rattle.course_rates.specs.Ways.{target_of, route_of, lists_by}
use Rattle.course_walk.specs.Walk.{Known, reached_at, beginning, piece_between, onward}
use Rattle.course_walk.proofs.Left.{left_none, onward_first, all_left}
use Rattle.course_walk.proofs.Own.{own_left}
use Rattle.course_walk.proofs.Courses.{route_course, route_own, begins_short}
use Rattle.course_walk.proofs.PieceStep.{PieceStep, onward_step}
use Rattle.course_walk.proofs.Rest.{known_at}
use Rattle.profile_quantity.proofs.Above.{quantity_is}
use Rattle.lines.specs.Lines.{f_line, s_line, q_line}
use Rattle.lines.proofs.Laying.{Next}
use Rattle.listing.specs.Listing.{f_lines, s_lines, run_lines, q_lines}
use Rattle.listing_parts.specs.Rest.{piece_line, lines_left, course_lines, courses_lines, runs_from, run_end, RunEnds}

-- ---- F lines

-- the fate at the place i, which is of the instruction i + 1, comes next
module _ (fs : List ℕ) (i : ℕ) where
  pub fates_next : i < length fs → Next (f_lines (i + 1) (drop i fs)) (f_line (i + 1) (get_or fs i 0)) (f_lines (i + 1 + 1) (drop (i + 1) fs))
  unfolding f_lines
  fates_next h =
      let left : drop i fs ≡ get_or fs i 0 ∷ drop (i + 1) fs = rw add-one (drop-cons fs i 0 h) in
      record {
        parts =
            ap (f_lines (i + 1)) left
            ∙ ap (λ (k : ℕ). f_line (i + 1) (get_or fs i 0) ++ f_lines k (drop (i + 1) fs)) {x = suc (i + 1)} {y = i + 1 + 1} (omega arith);
      }

  pub fates_none : length fs ≤ i → f_lines (i + 1) (drop i fs) ≡ []
  unfolding f_lines
  fates_none h = ap (f_lines (i + 1)) (drop_of_length-le fs {i = i} h)

-- ---- S lines of a course

-- how far a course has been followed: not past its target, with the segment that is known there, if any
pub record CourseAt (r : Route) (at : Reached) : Type 0 where
  pub short : Short r.heading (target_of r) at.place.level
  pub known : Known r.heading (lists_by r) (target_of r) at

-- one piece on, up to the second n: of the lines left, its line comes next
pub record PieceOn (r : Route) (n : ℕ) (from to : Reached) : Type 0 where
  pub along : CourseAt r to
  pub later : from.place.second < to.place.second
  pub within : to.place.second ≤ n
  pub line : Next (lines_left r n from.place) (piece_line from.place to.place) (lines_left r n to.place)

module _ (r : Route) where
  abbrev way : Heading
  way = r.heading

  abbrev lists : Lists
  lists = lists_by r

  abbrev target : ℕ
  target = target_of r

  pub along_begins : Short way target r.course.start.grains → CourseAt r (reached_at way lists target (beginning r.course r.course.begin))
  unfolding beginning reached_at
  along_begins sh = record { short = sh; known = known_at way lists target (beginning r.course r.course.begin) sh }

  module _ (n : ℕ) where
    pub piece_on : {from to : Reached} → from.place.second < n → CourseAt r from →
        to.place ≡ onward way lists target n from.place → Known way lists target to → PieceOn r n from to
    unfolding s_lines piece_line piece_between
    piece_on {from} {to} h a e known =
        let p : Place = from.place in
        let g : PieceStep way lists target n p to.place = rw e (onward_step way lists target n p h a.short) in
        record {
          along = record { short = g.short; known = known };
          later = g.later;
          within = g.within;
          line = record { parts = rw e (ap s_lines (onward_first way lists target n p h a.short)) };
        }

    pub pieces_none : (p : Place) → n ≤ p.second → lines_left r n p ≡ []
    unfolding s_lines
    pieces_none p h = ap s_lines (left_none way lists target n p h)

    -- from the beginning: those of the course
    pieces_all : (u : UnitData) → r ≡ route_of u r.course →
        lines_left r n (beginning r.course r.course.begin) ≡ course_lines u r.course n
    pieces_all u own = ap s_lines (own_left u r own target n (beginning r.course r.course.begin) ∙ all_left u r own r.course.begin n)

-- ---- S lines of courses
s_append : (ps qs : List Piece) → s_lines (ps ++ qs) ≡ s_lines ps ++ s_lines qs
unfolding s_lines
s_append [] qs = refl
s_append (p ∷ ps) qs =
    let x : List ℕ = s_line p.from p.to p.enter p.leave in
    ap (λ (l : List ℕ). x ++ l) (s_append ps qs) ∙ sym (append_assoc x (s_lines ps) (s_lines qs))

-- where a course ends, by the later ones
pub first_begins : (end : ℕ) (cs : List Course) (c : Course) → slice_get cs 0 ≡ Some c → c.begin ≡ begin_of end cs
unfolding begin_of
first_begins end [] c e = absurd (omega (arith, slice_get_within {A = Course} [] 0 c e))
first_begins end (d ∷ ds) c e = ap (λ (o : Option Course). (unwrap_or o c).begin) (sym e)

pub none_begins : (end : ℕ) (cs : List Course) → slice_get cs 0 ≡ None → end ≡ begin_of end cs
unfolding begin_of
none_begins end [] e = refl
none_begins end (d ∷ ds) e = absurd (true≢false (ap is_some e))

-- those of the courses from the place i on, of a day that ends at the second `end`
abbrev pub courses_left : UnitData → ℕ → List Course → ℕ → List ℕ
courses_left u end cs i = courses_lines u end (drop i cs)

-- of the lines left, those of a course come next, on its route up to the second `to`
pub record CourseNext (left rest : List ℕ) (r : Route) (to : ℕ) : Type 0 where
  pub short : Short r.heading (target_of r) r.course.start.grains
  pub lines : Next left (lines_left r to (beginning r.course r.course.begin)) rest

module _ (u : UnitData) (end : ℕ) (cs : List Course) where
  courses_more : (d : Course) (i to : ℕ) → i < length cs → to ≡ begin_of end (drop (i + 1) cs) →
      courses_left u end cs i ≡ course_lines u (get_or cs i d) to ++ courses_left u end cs (i + 1)
  unfolding courses_lines spans_of day_pieces
  courses_more d i to h e =
      let ds : List Course = drop (i + 1) cs in
      let c : Course = get_or cs i d in
      rw e (ap (courses_lines u end) (drop-cons cs i d h ∙ ap (λ (k : ℕ). c ∷ drop k cs) (sym (add-one i)))
      ∙ s_append (pieces_in (trajectory_of u c) c.begin (begin_of end ds)) (day_pieces (spans_of u end ds)))

  pub courses_none : (i : ℕ) → length cs ≤ i → courses_left u end cs i ≡ []
  unfolding courses_lines spans_of day_pieces s_lines
  courses_none i h = ap (courses_lines u end) (drop_of_length-le cs {i = i} h)

  -- the course at the place i
  pub course_next : (d : Course) {i to : ℕ} {r : Route} → i < length cs → r ≡ route_of u (get_or cs i d) →
      to ≡ begin_of end (take (length cs - (i + 1)) (drop (i + 1) cs)) →
      CourseNext (courses_left u end cs i) (courses_left u end cs (i + 1)) r to
  unfolding beginning
  course_next d {i} {to} {r} h e until =
      let c : Course = get_or cs i d in
      let ds : List Course = drop (i + 1) cs in
      let all : take (length cs - (i + 1)) ds ≡ ds = ap (λ (k : ℕ). take k ds) (sym (length-drop (i + 1) cs)) ∙ take-length ds in
      let own : r ≡ route_of u r.course = route_own u c r e in
      let here : course_lines u c to ≡ lines_left r to (beginning r.course r.course.begin) =
      ap (λ (x : Course). course_lines u x to) (sym (route_course u c r e)) ∙ sym (pieces_all r to u own) in
      record {
        short = begins_short u r own r.course.begin;
        lines = record {
          parts = courses_more d i to h (until ∙ ap (begin_of end) all) ∙ ap (λ (ls : List ℕ). ls ++ courses_left u end cs (i + 1)) here;
        };
      }

-- the first `started` of an array of courses, as many as there are
pub take_few : (cs : List Course) (n started : ℕ) → length cs ≡ course_places → n ≡ min started course_places → take n cs ≡ take started cs
take_few cs n started all e = ap (λ (k : ℕ). take k cs) (omega arith) ∙ take_min started cs

-- ---- Q lines

module _ (f : ℕ → ℕ) where
  -- the run of k goes on up to its end, and there the others begin
  run_line : (first k i n : ℕ) →
      run_lines first i k (list_from f i n) ≡ q_line first (run_end f k i n) k ++ runs_from f (run_end f k i n) (i + n - run_end f k i n)
  unfolding run_lines list_from run_end runs_from
  run_line first k i zero =
      sym (ap (λ (m : ℕ). q_line first i k ++ runs_from f i m) {x = i + 0 - i} {y = 0} (omega arith) ∙ append-nil (q_line first i k))
  run_line first k i (suc n) =
      let e : ℕ = run_end f k (suc i) n in
      by_bool (eqb (f i) k)
      (λ b. simp b (run_line first k (suc i) n ∙ ap (λ (m : ℕ). q_line first e k ++ runs_from f e m) {x = suc i + n - e} {y = i + suc n - e}
      (omega arith)))
      (λ b. simp b (ap (λ (m : ℕ). q_line first i k ++ runs_from f i m) {x = suc n} {y = i + suc n - i} (omega arith)))

  runs_first : (i n e : ℕ) → 0 < n → e ≡ run_end f (f i) (i + 1) (n - 1) → runs_from f i n ≡ q_line (i + 1) e (f i) ++ runs_from f e (i + n - e)
  unfolding runs_from
  runs_first i zero e h is = absurd (omega arith)
  runs_first i (suc n) e h is =
      let k : ℕ = f i in
      let d : ℕ = run_end f k (suc i) n in
      let same : d ≡ e = sym (is ∙ (λ j. run_end f k (add-one i j) (less j))) in
      run_line (suc i) k (suc i) n ∙ (λ j. q_line (sym (add-one i) j) (same j) k ++ runs_from f (same j) (count (same j) j))
    where
      less : suc n - 1 ≡ n
      less = omega arith

      count : (d : ℕ) → suc i + n - d ≡ i + suc n - d
      count d = omega arith

  runs_all : (n : ℕ) → runs_from f 0 n ≡ q_lines (list_from f 0 n)
  unfolding runs_from q_lines list_from
  runs_all zero = refl
  runs_all (suc n) = refl

  -- where a run ends
  end_on : (k i n : ℕ) → 0 < n → f i ≡ k → run_end f k i n ≡ run_end f k (i + 1) (n - 1)
  unfolding run_end
  end_on k i zero h e = absurd (omega arith)
  end_on k i (suc n) h e = simp (eq-eqb (f i) k e) (λ j. run_end f k (sym (add-one i) j) (less j))
    where
      less : n ≡ suc n - 1
      less = omega arith

  end_here : (k i n : ℕ) → 0 < n → (f i ≡ k → ⊥) → run_end f k i n ≡ i
  unfolding run_end
  end_here k i zero h e = absurd (omega arith)
  end_here k i (suc n) h e = simp (ne_eqb (f i) k e)

  pub end_none : (k i n : ℕ) → n ≤ 0 → run_end f k i n ≡ i
  unfolding run_end
  end_none k i zero h = refl
  end_none k i (suc n) h = absurd (omega arith)

  -- a run of k goes on over m half-hours of the quantity k
  end_over : (k i n m : ℕ) → m ≤ n → ((j : ℕ) → i ≤ j → j < i + m → f j ≡ k) → run_end f k i n ≡ run_end f k (i + m) (n - m)
  end_over k i n zero h e = λ j. run_end f k (here j) (all j)
    where
      here : i ≡ i + zero
      here = omega arith

      all : n ≡ n - zero
      all = omega arith
  end_over k i n (suc m) h e =
      end_on k i n (omega arith) (e i (omega arith) (omega arith))
      ∙ (end_over k (i + 1) (n - 1) m (omega arith) (λ j a b. e j (omega arith) (omega arith)) ∙ (λ j. run_end f k (here j) (left j)))
    where
      here : i + 1 + m ≡ i + suc m
      here = omega arith

      left : n - 1 - m ≡ n - suc m
      left = omega arith

  -- up to the boundary i it goes on, the last being `end`
  end_to : (k from end i : ℕ) → from ≤ i → i ≤ end → ((j : ℕ) → from ≤ j → j < i → f j ≡ k) → run_end f k from (end - from) ≡ run_end f k i (end - i)
  end_to k from end i a b e =
      end_over k from (end - from) (i - from) (omega arith) (λ j c d. e j c (omega arith)) ∙ (λ j. run_end f k (here j) (left j))
    where
      here : from + (i - from) ≡ i
      here = omega arith

      left : end - from - (i - from) ≡ end - i
      left = omega arith

  -- it ends at the first half-hour of another quantity, or with the last half-hour
  pub run_found : (k from end : ℕ) (r : Option ℕ) → from ≤ end →
      MatchOption r ((j : ℕ) → from ≤ j → j < end → false ≡ not (eqb (f j) k))
      (λ i. (from ≤ i) × (i < end) × (true ≡ not (eqb (f i) k)) × ((j : ℕ) → from ≤ j → j < i → false ≡ not (eqb (f j) k))) →
      RunEnds f k from end (unwrap_or r end)
  run_found k from end None h p = record {
    at =
        sym (end_to k from end end h (omega arith) (λ j a b. eqb-true (f j) k (not-false _ (sym (p j a b))))
        ∙ end_none k end (end - end) (omega arith));
    later = h;
    within = omega arith;
  }
  run_found k from end (Some i) h p = record {
    at =
        sym (end_to k from end i p.0 (omega (arith, p.1)) (λ j a b. eqb-true (f j) k (not-false _ (sym (p.3 j a b))))
        ∙ end_here k i (end - i) (omega (arith, p.1)) (eqb-false (f i) k (not-true _ (sym p.2))));
    later = p.0;
    within = omega (arith, p.1);
  }

-- of a day of so many half-hours
module _ (f : ℕ → ℕ) (halves : ℕ) where
  -- those of the half-hours from the boundary i on
  abbrev pub quantities_left : ℕ → List ℕ
  quantities_left i = runs_from f i (halves - i)

  quantities_more : (i k e : ℕ) → i < halves → k ≡ f i → e ≡ run_end f k (i + 1) (halves - (i + 1)) →
      quantities_left i ≡ q_line (i + 1) e k ++ quantities_left e
  quantities_more i k e h q is =
      rw q (runs_first f i (halves - i) e (omega arith) (is ∙ (λ j. run_end f (q j) (i + 1) (count j)))
      ∙ ap (λ (m : ℕ). q_line (i + 1) e (f i) ++ runs_from f e m) {x = i + (halves - i) - e} {y = halves - e} (omega arith))
    where
      count : halves - (i + 1) ≡ halves - i - 1
      count = omega arith

  pub quantities_none : (i : ℕ) → halves ≤ i → quantities_left i ≡ []
  unfolding runs_from
  quantities_none i h = ap (runs_from f i) {x = halves - i} {y = 0} (omega arith)

  pub quantities_all : quantities_left 0 ≡ q_lines (list_from f 0 halves)
  quantities_all = ap (runs_from f 0) {x = halves - 0} {y = halves} (omega arith) ∙ runs_all f halves

-- a quantity by twice the area of its half-hour
module _ (sums : List ℕ) (i : ℕ) where
  pub quantity_here : (twice kw : ℕ) → twice ≡ get_or sums (i + 1) 0 - get_or sums i 0 → kw ≡ rounded twice → kw ≡ quantity_at sums i
  quantity_here twice kw t e = e ∙ ap rounded t ∙ quantity_is sums i

  -- the line of the run that begins here comes next
  pub quantities_next : {twice kw e : ℕ} (halves : ℕ) → i < halves → twice ≡ get_or sums (i + 1) 0 - get_or sums i 0 → kw ≡ rounded twice →
      RunEnds (quantity_at sums) kw (i + 1) halves e →
      Next (quantities_left (quantity_at sums) halves i) (q_line (i + 1) e kw) (quantities_left (quantity_at sums) halves e)
  quantities_next {twice} {kw} {e} halves h t q r =
      record { parts = quantities_more (quantity_at sums) halves i kw e h (quantity_here twice kw t q) r.at }

  -- the half-hour has another quantity than kw, which twice the area `twice` gives: as the code asks it, and as it is
  module _ (twice kw : ℕ) (given : kw ≡ rounded twice) where
    abbrev area : ℕ
    area = get_or sums (i + 1) 0 - get_or sums i 0

    asked : (b : Bool) → eqb area twice ≡ b → (not b && not (eqb (rounded area) kw)) ≡ not (eqb (rounded area) kw)
    asked true e = ap not (sym (eq-eqb (rounded area) kw (ap rounded (eqb-true area twice e) ∙ sym given)))
    asked false e = refl

    pub other_is : (not (eqb area twice) && not (eqb (rounded area) kw)) ≡ not (eqb (quantity_at sums i) kw)
    other_is = asked (eqb area twice) refl ∙ ap (λ (q : ℕ). not (eqb q kw)) (quantity_is sums i)
