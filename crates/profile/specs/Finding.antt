-- Believed: document 01, The printed day. What close found, as a day stores it: in arrays.
use Rattle.std.specs.Prelude.{ℕ, suc, ◌-◌, List, false, length, get_or, replicate}
use Rattle.level.specs.Lists.{filled}
use Rattle.level.specs.Numbers.{instruction_places, course_places, boundary_places}
use Rattle.course.specs.Course.{no_course}
use Rattle.profile.specs.declared.Finding.{Finding}
use Rattle.profile.specs.Profile.{Found, rounded}

unfoldable pub no_finding : Finding
no_finding = record {
  fates = replicate instruction_places 0;
  started = 0;
  courses = replicate course_places no_course;
  sums = replicate boundary_places 0;
  last = record { course = no_course; maximised = false; ordered = 0; off = 0 };
  end = record { level = 0; off = 0 };
}

-- unused places hold zeros
unfoldable pub arrays_of : Found → Finding
arrays_of f = record {
  fates = filled instruction_places 0 f.fates;
  started = length f.courses;
  courses = filled course_places no_course f.courses;
  sums = filled boundary_places 0 f.sums;
  last = f.last;
  end = f.end;
}

-- the quantity of the half-hour from the boundary i on: from two neighbouring sums
unfoldable pub quantity_at : List ℕ → ℕ → ℕ
quantity_at sums i = rounded (get_or sums (suc i) 0 - get_or sums i 0)
