-- One turn of following: the course followed to where an instruction acts, or to the day's end, and what comes of it.
use Rattle.std.proofs.Common.{◌≡◌, ℕ, ◌+◌, ◌*◌, ◌≤◌, ◌<◌, List, [], ◌∷◌, length, get_or, drop, drop-cons, ap, sym, ◌∙◌, subst, arith}
use Rattle.std.proofs.lemmas.List.{drop_all}
use native.Mathlib.Numerals.{add-one}
use Rattle.level.specs.Numbers.{half_hour, most_half_hours}
use Rattle.level.specs.Bounds.{most_seconds}
use Rattle.records.specs.declared.UnitData.{UnitData}
use Rattle.validation.specs.declared.Numbered.{Numbered}
use Rattle.validation.specs.Kept.{acting}
use Rattle.validation_groups.specs.Working.{no_numbered}
use Rattle.profile.specs.declared.UnderWay.{UnderWay}
use Rattle.profile.specs.declared.Setting.{Setting}
use Rattle.profile.specs.declared.State.{State}
use Rattle.profile.specs.State.{by_rule}
use Rattle.profile.specs.Effects.{Outcome, outcome, begun, state_at}
use Rattle.profile.proofs.Following.{comes_to, new_course}
use Rattle.profile_areas.specs.declared.Sums.{Sums}
use Rattle.profile_areas.specs.declared.Passed.{Passed}
use Rattle.profile_areas.specs.Passing.{CourseAhead, PieceAhead, Passing}
use Rattle.profile_areas.proofs.Areas.{step_straight}
use Rattle.profile_areas.proofs.Watch.{watching_at}
use Rattle.profile_follow.specs.declared.Walk.{Walk}
use Rattle.profile_follow.specs.declared.OnCourse.{OnCourse}
use Rattle.profile_follow.specs.Following.{went_to, second_of, sums_at}
use Rattle.profile_follow.proofs.Steps.{CutAt, FollowProgress, last_step, order, progress_pass}

-- as a turn begins, i of all having acted
pub record FollowTurn (i : ℕ) (u : UnitData) (end : ℕ) (first : UnderWay) (all : List Numbered) (w : Walk) (g : OnCourse)
    (x : Sums) : Type 0 where
  pub acted : length w.fates.these ≡ i
  pub progress : FollowProgress u end first all (drop i all) w g x

module _ {i : ℕ} {u : UnitData} {end : ℕ} {first : UnderWay} {all : List Numbered} {w : Walk} {g : OnCourse} {x : Sums}
    (v : FollowTurn i u end first all w g x) where
  pub one_acts : i < length all → FollowProgress u end first all (get_or all i no_numbered ∷ drop (i + 1) all) w g x
  one_acts h = subst (λ (os : List Numbered). FollowProgress u end first all os w g x)
      (drop-cons all i no_numbered h ∙ ap (λ (k : ℕ). get_or all i no_numbered ∷ drop k all) (sym (add-one i))) v.progress

  pub none_left : length all ≤ i → FollowProgress u end first all [] w g x
  none_left h = subst (λ (os : List Numbered). FollowProgress u end first all os w g x) (drop_all i all h) v.progress

-- some left, the course under way followed to where the first of them acts, or to the day's end
module _ {u : UnitData} {halves : ℕ} {first : UnderWay} {all left : List Numbered} {w : Walk} {g : OnCourse} {x : Sums}
    (long : halves ≤ most_half_hours) (f : FollowProgress u (half_hour * halves) first all left w g x) where
  abbrev end : ℕ
  end = half_hour * halves

  pub within_day : second_of end left ≤ most_seconds
  within_day = omega (arith, (order f).soon)

  module _ {t : ℕ} (at : t ≡ second_of end left) where
    pub course_ahead : CourseAhead g.route g.reached t (sums_at g x)
    course_ahead = record {
      later = omega (arith, (order f).later);
      within = omega (arith, within_day);
      low = f.on.low;
      short = f.on.watching.short;
      known = f.on.known;
      fits = f.fits;
    }

    module _ {z : Sums} {s : Passed} (passing : Passing g.route g.reached.place g.off t (sums_at g x) z s) where
      past : Passing g.route g.reached.place g.off (second_of end left) (sums_at g x) z s
      past = subst (λ (k : ℕ). Passing g.route g.reached.place g.off k (sums_at g x) z s) at passing

      -- the course further on
      abbrev further : OnCourse
      further = went_to g s

      pub gone_on : FollowProgress u end first all left w further z
      gone_on = progress_pass f past

      -- where the second cuts it
      pub cut_at : CutAt further s.ahead (second_of end left)
      cut_at = record { there = past.there; runs = past.runs }

      -- the piece that it cuts, where that is added
      pub piece_ahead : PieceAhead g.route.heading s.reached.place s.ahead (sums_at further z)
      piece_ahead = let p = past.progress in record {
        straight = λ lt. step_straight (last_step cut_at p.short lt);
        later = omega (arith, p.within, past.there);
        within = omega (arith, past.there, within_day);
        low = p.low;
        low_too = past.ahead_low;
        fits = p.fits;
      }

      -- the state there
      pub state_there : record { level = s.ahead.level; off = s.later } ≡ state_at by_rule u w.now (second_of end left)
      state_there = watching_at u w.now g.route s.ahead s.later (second_of end left) f.on.course (past.watched u w.now.off f.on.watching) past.there

-- the first of some left acts: the course is followed to there, what it comes to, and the course that it begins
module _ {u : UnitData} {halves : ℕ} {first : UnderWay} {all : List Numbered} {act : Numbered} {later : List Numbered} {w : Walk} {g : OnCourse}
    {x : Sums} (long : halves ≤ most_half_hours) (f : FollowProgress u (half_hour * halves) first all (act ∷ later) w g x)
    {t : ℕ} (at : t ≡ acting act) {z : Sums} {s : Passed}
    (passing : Passing g.route g.reached.place g.off t (sums_at g x) z s)
    {state : State} (is : state ≡ record { level = s.ahead.level; off = s.later }) where
  there : state ≡ state_at by_rule u w.now (acting act)
  there = is ∙ state_there long f at passing

  pub record ActsNow : Type 0 where
    pub progress : FollowProgress u (half_hour * halves) first all (act ∷ later) w (went_to g s) z
    pub cut : CutAt (went_to g s) s.ahead (acting act)
    pub comes : {x y : Outcome} → x ≡ outcome u w.now act.instruction state → x ≡ y → comes_to by_rule u w.now act ≡ y
    pub begins : {d : UnderWay} (set : Setting) → d ≡ begun u act set state → d ≡ new_course by_rule u w.now act set

  pub acts_now : ActsNow
  acts_now = record {
    progress = gone_on long f at passing;
    cut = cut_at long f at passing;
    comes = λ e same. sym (e ∙ ap (outcome u w.now act.instruction) there) ∙ same;
    begins = λ set e. e ∙ ap (begun u act set) there;
  }
