use Rattle.level.specs.Numbers.{instruction_places, course_places, boundary_places}
use Rattle.profile.specs.Finding.{no_finding}
use Rattle.profile.proofs.Zeros.{all_of}
use Rattle.profile.proofs.Finding.none.Goals as goal

pub returns : goal.returns
unfolding no_finding
returns c = let h = c.default.ensures in λ i. record {
  fates = all_of _ 0 (λ y f. f) _ instruction_places h.0 i;
  started = h.1.0 i;
  courses = all_of _ _ (λ x e. λ j. record {
    begin = e.0 j;
    start = record { grains = e.1.0 j };
    target = e.1.1.0 j;
    heat = e.1.1.1.0 j;
    up = e.1.1.1.1.0 j;
    down = e.1.1.1.1.1 j;
  }) _ course_places h.1.1.0 i;
  sums = all_of _ 0 (λ y f. f) _ boundary_places h.1.1.1.0 i;
  last = record {
    course = record {
      begin = h.1.1.1.1.0.0.0 i;
      start = record { grains = h.1.1.1.1.0.0.1.0 i };
      target = h.1.1.1.1.0.0.1.1.0 i;
      heat = h.1.1.1.1.0.0.1.1.1.0 i;
      up = h.1.1.1.1.0.0.1.1.1.1.0 i;
      down = h.1.1.1.1.0.0.1.1.1.1.1 i;
    };
    maximised = h.1.1.1.1.0.1.0 i;
    ordered = h.1.1.1.1.0.1.1.0 i;
    off = h.1.1.1.1.0.1.1.1 i;
  };
  end = record { level = h.1.1.1.1.1.0 i; off = h.1.1.1.1.1.1 i };
}
