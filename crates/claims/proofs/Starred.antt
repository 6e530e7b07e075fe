-- All starred cases of "Try", proved together as one list.
use mathlib.Core.Path.{◌≡◌, refl, ap, ◌∙◌}
use mathlib.Core.List.{List, [], ◌∷◌}
use Prim.Native.Nat.{ℕ}
use Rattle.profile.specs.Profile.{Found, paper, begin_of, spans_of, in_force, level_starting, level_ending, rate_starting, recorded_twice, recorded_to, recorded_in, rounded, day_pieces, last_of, found_by, found}
use Rattle.profile.specs.Twin.{twin, pieces_to, twin_to, twin_in, arrival, state_on, by_segments}
use Rattle.profile.specs.declared.Taken.{Taken}
use Rattle.day.proofs.Same.{find_same}
use Rattle.level.specs.Level.{grains, from_kw}
use Rattle.level.specs.Lists.{those, some, list_from, sum, filled}
use Rattle.course.specs.Pieces.{seconds, piece, pieces_of, pieces_in}
use Rattle.course.specs.Exact.{ticks, exact, rate_product, plus, ticks_of, exact_at, cut, cuts, exact_twice}
use Rattle.course.specs.Recorded.{recorded, whole_way, area, between, recorded_tick, twice_area}
use Rattle.records.specs.Codes.{meaning_of}
use Rattle.records.specs.Fields.{in_range, a_level, a_maximum, a_rate, a_hold, a_boundary, column_ranges, ramp_ranges, unit_ranges, fit_from, falls_below, falls, disagrees, unit_answer, opening_fits, opening_answer, figures_fit, instruction_answer}
use Rattle.records.specs.Records.{size_of, numbers, trigger_of, column_of, unit_of, opening_of, issue_of, instruction_of}
use Rattle.course.specs.Course.{trajectory_of, heading, toward, gap, distance, in_use, passed, rate_at, breaks_in_use, counting, triggers, nearest, holding, candidates, next_stop, hold_at, arrived, second, after, rate_in_force, stops_from, segments_of, moment_at, level_at, rate_on, stops, segments}
use Rattle.course.specs.Lists.{rates_of, in_grains, place_of, column_for, replaced, lists_of}
use Rattle.validation.specs.Kept.{numbered, superseded, group, goes_before, highest, present, carrying, merged, used_of, next_time, used_from, used, repeats, sync_within_hour, from_sync, before_sync, failed, check_one, check, acting, overtaken, late_fate, actors, late_marks, turned, kept_of, validated, fate_among, fates_of}
use Rattle.profile.specs.Allowance.{has_time, allowed, allowance, exact_in, exact_of, exact_area}
use Rattle.profile.specs.Effects.{heat_by, mwof_target, sync_target, outcome_by, stepped, course_from, under_way, start_course, begun, goes_on, replaces, state_at, follow}
use Rattle.profile.specs.State.{held, watch_next, watch, by_rule}
use Rattle.profile.specs.Taken.{start_of, no_taken, taken_with, entered}
use Rattle.profile.specs.Finding.{no_finding, arrays_of, quantity_at}
use Rattle.day.specs.Day.{found_in, empty, day_with, fates_in, courses_in, quantities_in}
use Rattle.day.specs.Step.{kind_of, body_of, a_kind, no_bytes, unknown_kind, too_few, second_one, before_unit, too_many, not_ready, field_answer, too_high, quantity_too_high, answer_by, step_by}
use Rattle.lines.specs.Lines.{f_line, s_line, q_line, e_line, x_line}
use Rattle.lines.specs.Text.{digits, decimal, field, fields, line}
use Rattle.listing.specs.Listing.{f_lines, s_lines, run_lines, q_lines, listing, printed_day, list_answer, list_of, lent_after}
use Rattle.listing.specs.Reader.{parted, lines_of, words_of, is_byte, all_digits, is_decimal, value_from, value, enclosing, in_lines, printed_at, printed_kw}
use Rattle.claims.specs.Calls.{after_calls, let_in, wrote}
use Rattle.claims.specs.Cases.{word, words, plain_column, unit_record, opening_record, instruction_record, usual, trip_at, fail_at, figures, sent, closed_by, fates_by, first_quantity, pieces_by, answer_after, starred}
use Rattle.claims.specs.LetIn.{of_kind, has_kind, body_of_kind, unit_in, opening_in, instructions_in, taken_in, found_from, spans_from}
use Rattle.listing.specs.Program.{run_by, ran_by, printed_run, program}

-- document 01's listing, byte by byte; quantities; fates; pieces (from, to, level, level); answers; fates
abbrev pub expected : List (List ℕ)
expected =
    (70 ∷ 32 ∷ 49 ∷ 32 ∷ 48 ∷ 10 ∷ 83 ∷ 32 ∷ 48 ∷ 32 ∷ 49 ∷ 50 ∷ 48 ∷ 32 ∷ 54 ∷ 48 ∷ 48 ∷ 48 ∷ 48 ∷ 48 ∷ 48 ∷ 32 ∷ 54 ∷ 48 ∷ 48 ∷ 48 ∷ 48 ∷ 48 ∷ 48 ∷
    10 ∷ 83 ∷ 32 ∷ 49 ∷ 50 ∷ 48 ∷ 32 ∷ 51 ∷ 48 ∷ 48 ∷ 32 ∷ 54 ∷ 48 ∷ 48 ∷ 48 ∷ 48 ∷ 48 ∷ 48 ∷ 32 ∷ 54 ∷ 49 ∷ 56 ∷ 48 ∷ 48 ∷ 48 ∷ 48 ∷ 10 ∷ 83 ∷ 32
    ∷ 51 ∷ 48 ∷ 48 ∷ 32 ∷ 56 ∷ 54 ∷ 52 ∷ 48 ∷ 48 ∷ 32 ∷ 54 ∷ 49 ∷ 56 ∷ 48 ∷ 48 ∷ 48 ∷ 48 ∷ 32 ∷ 54 ∷ 49 ∷ 56 ∷ 48 ∷ 48 ∷ 48 ∷ 48 ∷ 10 ∷ 81 ∷
    32 ∷ 49 ∷ 32 ∷ 49 ∷ 32 ∷ 49 ∷ 48 ∷ 50 ∷ 54 ∷ 53 ∷ 48 ∷ 10 ∷ 81 ∷ 32 ∷ 50 ∷ 32 ∷ 52 ∷ 56 ∷ 32 ∷ 49 ∷ 48 ∷ 51 ∷ 48 ∷ 48 ∷ 48 ∷ 10 ∷ 69 ∷
    32 ∷ 54 ∷ 49 ∷ 56 ∷ 48 ∷ 48 ∷ 48 ∷ 48 ∷ 32 ∷ 49 ∷ 48 ∷ 51 ∷ 48 ∷ 48 ∷ 48 ∷ 32 ∷ 49 ∷ 32 ∷ 48 ∷ 10 ∷ [])
    ∷ (1 ∷ [])
    ∷ (0 ∷ [])
    ∷ (4 ∷ 4 ∷ 5 ∷ [])
    ∷ (0 ∷ 0 ∷ 5 ∷ [])
    ∷ (6 ∷ 0 ∷ [])
    ∷ (0 ∷ 0 ∷ [])
    ∷ (0 ∷ 120 ∷ 6000000 ∷ 6000000 ∷ 120 ∷ 124 ∷ 6000000 ∷ 6028000 ∷ 124 ∷ 125 ∷ 6028000 ∷ 6030000 ∷ 125 ∷ 86400 ∷ 6030000 ∷ 6030000 ∷ [])
    ∷ (0 ∷ [])
    ∷ (7 ∷ [])
    ∷ (0 ∷ [])
    ∷ (8 ∷ [])
    ∷ []

starred_by_segments : starred (found_in twin) ≡ expected
unfolding grains from_kw those some list_from sum filled seconds recorded ticks exact rate_product whole_way area between recorded_tick meaning_of in_range
    a_level a_maximum a_rate a_hold a_boundary column_ranges ramp_ranges unit_ranges fit_from falls_below falls disagrees unit_answer opening_fits opening_answer
    figures_fit instruction_answer size_of numbers trigger_of column_of unit_of opening_of issue_of instruction_of trajectory_of heading toward gap distance
    in_use passed rate_at breaks_in_use counting triggers nearest holding candidates next_stop hold_at arrived second after rate_in_force stops_from
    segments_of moment_at level_at rate_on stops segments plus ticks_of exact_at cut cuts exact_twice rates_of in_grains place_of column_for replaced
    lists_of piece pieces_of pieces_in twice_area numbered superseded group goes_before highest present carrying merged used_of next_time
    used_from used repeats sync_within_hour from_sync before_sync failed check_one check acting overtaken late_fate actors late_marks
    turned kept_of validated fate_among fates_of has_time allowed allowance exact_in exact_of exact_area heat_by mwof_target sync_target
    outcome_by stepped course_from under_way start_course begun goes_on replaces state_at follow begin_of spans_of in_force
    level_starting level_ending rate_starting recorded_twice recorded_to recorded_in rounded pieces_to twin_to twin_in
    day_pieces last_of found_by found held watch_next watch by_rule arrival state_on by_segments start_of no_taken
    taken_with entered no_finding arrays_of quantity_at found_in empty day_with fates_in courses_in quantities_in
    kind_of body_of a_kind no_bytes unknown_kind too_few second_one before_unit too_many not_ready field_answer
    too_high quantity_too_high answer_by step_by digits decimal field fields line f_line s_line q_line
    e_line x_line f_lines s_lines run_lines q_lines listing printed_day list_answer list_of lent_after
    parted lines_of words_of is_byte all_digits is_decimal value_from value enclosing in_lines
    printed_at printed_kw after_calls let_in wrote word words
    plain_column unit_record opening_record instruction_record usual trip_at fail_at figures
    sent closed_by fates_by first_quantity pieces_by answer_after starred of_kind
    has_kind body_of_kind unit_in opening_in instructions_in taken_in found_from
    spans_from run_by ran_by printed_run program
starred_by_segments = refl

-- by the paper's own definitions
pub starred_cases : starred (found_in paper) ≡ expected
starred_cases = ap (λ (f : Taken → Found). starred f) find_same ∙ starred_by_segments
