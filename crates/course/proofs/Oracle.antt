-- Six courses, rich in stops and holds: what an independent second-by-second program prints, by computation.
use mathlib.Core.Path.{◌≡◌, refl}
use mathlib.Core.List.{[], ◌∷◌}
use Rattle.course.specs.Pieces.{seconds, piece, pieces_of, pieces_in}
use Rattle.level.specs.Lists.{those}
use Rattle.course.specs.Course.{Trajectory, heading, counting, toward, gap, in_use, passed, breaks_in_use, triggers, nearest, holding, rate_at, candidates, next_stop, hold_at, arrived, second, after, stops_from, segments_of, moment_at, level_at, stops, segments}

abbrev c_a : Trajectory
c_a = record {
  start = 106;
  target = 3420;
  lists = record {
    msg = 2460;
    column = record { rates = 160 ∷ 99 ∷ 92 ∷ []; breaks = 780 ∷ 840 ∷ [] };
    soaks = record { level = 1080; minutes = 1 } ∷ record { level = 1200; minutes = 1 } ∷ [];
    up = record { rates = 20 ∷ 98 ∷ 46 ∷ 11 ∷ 34 ∷ []; breaks = 720 ∷ 2040 ∷ 3420 ∷ 3480 ∷ [] };
    dwells = record { level = 2520; minutes = 2 } ∷ record { level = 2460; minutes = 0 } ∷ record { level = 2340; minutes = 0 } ∷ [];
    down = record { rates = 174 ∷ 69 ∷ 122 ∷ 26 ∷ 121 ∷ []; breaks = 2340 ∷ 2460 ∷ 2700 ∷ 3420 ∷ [] };
    deload = record { rates = 89 ∷ 65 ∷ []; breaks = 1800 ∷ [] };
  };
}

stops_a : stops c_a ≡ 780 ∷ 840 ∷ 1080 ∷ 1200 ∷ 2460 ∷ 2520 ∷ 3420 ∷ []
unfolding level_at moment_at after second arrived rate_at next_stop candidates hold_at holding nearest triggers counting breaks_in_use those passed in_use gap
    toward heading stops stops_from segments segments_of pieces_in pieces_of piece seconds
stops_a = refl

pieces_a : pieces_in c_a 0 400 ≡ record { from = 0; to = 4; enter = 106; leave = 746 } ∷ record { from = 4; to = 5; enter = 746; leave = 780 } ∷ record
    { from = 5; to = 6; enter = 780; leave = 840 } ∷ record { from = 6; to = 8; enter = 840; leave = 1024 } ∷ record
    { from = 8; to = 9; enter = 1024; leave = 1080 } ∷ record { from = 9; to = 69; enter = 1080; leave = 1080 } ∷ record
    { from = 69; to = 70; enter = 1080; leave = 1172 } ∷ record { from = 70; to = 71; enter = 1172; leave = 1200 } ∷ record
    { from = 71; to = 131; enter = 1200; leave = 1200 } ∷ record { from = 131; to = 144; enter = 1200; leave = 2396 } ∷ record
    { from = 144; to = 145; enter = 2396; leave = 2460 } ∷ record { from = 145; to = 146; enter = 2460; leave = 2506 } ∷ record
    { from = 146; to = 147; enter = 2506; leave = 2520 } ∷ record { from = 147; to = 267; enter = 2520; leave = 2520 } ∷ record
    { from = 267; to = 286; enter = 2520; leave = 3394 } ∷ record { from = 286; to = 287; enter = 3394; leave = 3420 } ∷
    record { from = 287; to = 400; enter = 3420; leave = 3420 } ∷ []
unfolding level_at moment_at after second arrived rate_at next_stop candidates hold_at holding nearest triggers counting breaks_in_use those passed in_use gap
    toward heading stops stops_from segments segments_of pieces_in pieces_of piece seconds
pieces_a = refl

levels_a : level_at c_a 89 ∷ level_at c_a 129 ∷ level_at c_a 148 ∷ level_at c_a 178 ∷ level_at c_a 196 ∷ [] ≡ 1200 ∷ 1200 ∷ 2520 ∷ 2520 ∷ 2520 ∷ []
unfolding level_at moment_at after second arrived rate_at next_stop candidates hold_at holding nearest triggers counting breaks_in_use those passed in_use gap
    toward heading stops stops_from segments segments_of pieces_in pieces_of piece seconds
levels_a = refl

abbrev c_b : Trajectory
c_b = record {
  start = 545;
  target = 1500;
  lists = record {
    msg = 660;
    column = record { rates = 45 ∷ 198 ∷ 48 ∷ []; breaks = 780 ∷ 1380 ∷ [] };
    soaks = record { level = 600; minutes = 2 } ∷ record { level = 660; minutes = 1 } ∷ [];
    up = record { rates = 1 ∷ 183 ∷ 158 ∷ 164 ∷ 67 ∷ []; breaks = 60 ∷ 960 ∷ 1020 ∷ 1500 ∷ [] };
    dwells = record { level = 660; minutes = 1 } ∷ record { level = 1260; minutes = 2 } ∷ record { level = 1440; minutes = 1 } ∷ [];
    down = record { rates = 120 ∷ 47 ∷ 167 ∷ 95 ∷ 189 ∷ []; breaks = 180 ∷ 240 ∷ 720 ∷ 840 ∷ [] };
    deload = record { rates = 84 ∷ 153 ∷ []; breaks = 300 ∷ [] };
  };
}

stops_b : stops c_b ≡ 600 ∷ 660 ∷ 960 ∷ 1020 ∷ 1260 ∷ 1440 ∷ 1500 ∷ []
unfolding level_at moment_at after second arrived rate_at next_stop candidates hold_at holding nearest triggers counting breaks_in_use those passed in_use gap
    toward heading stops stops_from segments segments_of pieces_in pieces_of piece seconds
stops_b = refl

pieces_b : pieces_in c_b 0 800 ≡ record { from = 0; to = 1; enter = 545; leave = 590 } ∷ record { from = 1; to = 2; enter = 590; leave = 600 } ∷ record
    { from = 2; to = 122; enter = 600; leave = 600 } ∷ record { from = 122; to = 123; enter = 600; leave = 645 } ∷ record
    { from = 123; to = 124; enter = 645; leave = 660 } ∷ record { from = 124; to = 184; enter = 660; leave = 660 } ∷ record
    { from = 184; to = 185; enter = 660; leave = 843 } ∷ record { from = 185; to = 186; enter = 843; leave = 960 } ∷ record
    { from = 186; to = 187; enter = 960; leave = 1020 } ∷ record { from = 187; to = 188; enter = 1020; leave = 1184 } ∷ record
    { from = 188; to = 189; enter = 1184; leave = 1260 } ∷ record { from = 189; to = 309; enter = 1260; leave = 1260 } ∷ record
    { from = 309; to = 310; enter = 1260; leave = 1424 } ∷ record { from = 310; to = 311; enter = 1424; leave = 1440 } ∷ record
    { from = 311; to = 371; enter = 1440; leave = 1440 } ∷ record { from = 371; to = 372; enter = 1440; leave = 1500 } ∷
    record { from = 372; to = 800; enter = 1500; leave = 1500 } ∷ []
unfolding level_at moment_at after second arrived rate_at next_stop candidates hold_at holding nearest triggers counting breaks_in_use those passed in_use gap
    toward heading stops stops_from segments segments_of pieces_in pieces_of piece seconds
pieces_b = refl

levels_b : level_at c_b 23 ∷ level_at c_b 416 ∷ level_at c_b 473 ∷ level_at c_b 505 ∷ level_at c_b 638 ∷ [] ≡ 600 ∷ 1500 ∷ 1500 ∷ 1500 ∷ 1500 ∷ []
unfolding level_at moment_at after second arrived rate_at next_stop candidates hold_at holding nearest triggers counting breaks_in_use those passed in_use gap
    toward heading stops stops_from segments segments_of pieces_in pieces_of piece seconds
levels_b = refl

abbrev c_c : Trajectory
c_c = record {
  start = 184;
  target = 1320;
  lists = record {
    msg = 240;
    column = record { rates = 22 ∷ 143 ∷ 56 ∷ []; breaks = 1440 ∷ 1500 ∷ [] };
    soaks = record { level = 660; minutes = 1 } ∷ record { level = 1200; minutes = 2 } ∷ [];
    up = record { rates = 66 ∷ 61 ∷ 48 ∷ 111 ∷ 145 ∷ []; breaks = 420 ∷ 780 ∷ 960 ∷ 1080 ∷ [] };
    dwells = record { level = 240; minutes = 1 } ∷ record { level = 480; minutes = 1 } ∷ record { level = 900; minutes = 0 } ∷ [];
    down = record { rates = 45 ∷ 174 ∷ 120 ∷ 129 ∷ 8 ∷ []; breaks = 360 ∷ 600 ∷ 1260 ∷ 1440 ∷ [] };
    deload = record { rates = 88 ∷ 131 ∷ []; breaks = 480 ∷ [] };
  };
}

stops_c : stops c_c ≡ 240 ∷ 420 ∷ 480 ∷ 780 ∷ 960 ∷ 1080 ∷ 1320 ∷ []
unfolding level_at moment_at after second arrived rate_at next_stop candidates hold_at holding nearest triggers counting breaks_in_use those passed in_use gap
    toward heading stops stops_from segments segments_of pieces_in pieces_of piece seconds
stops_c = refl

pieces_c : pieces_in c_c 0 800 ≡ record { from = 0; to = 2; enter = 184; leave = 228 } ∷ record { from = 2; to = 3; enter = 228; leave = 240 } ∷ record
    { from = 3; to = 63; enter = 240; leave = 240 } ∷ record { from = 63; to = 65; enter = 240; leave = 372 } ∷ record
    { from = 65; to = 66; enter = 372; leave = 420 } ∷ record { from = 66; to = 67; enter = 420; leave = 480 } ∷ record
    { from = 67; to = 127; enter = 480; leave = 480 } ∷ record { from = 127; to = 131; enter = 480; leave = 724 } ∷ record
    { from = 131; to = 132; enter = 724; leave = 780 } ∷ record { from = 132; to = 135; enter = 780; leave = 924 } ∷ record
    { from = 135; to = 136; enter = 924; leave = 960 } ∷ record { from = 136; to = 137; enter = 960; leave = 1071 } ∷ record
    { from = 137; to = 138; enter = 1071; leave = 1080 } ∷ record { from = 138; to = 139; enter = 1080; leave = 1225 } ∷ record
    { from = 139; to = 140; enter = 1225; leave = 1320 } ∷ record { from = 140; to = 800; enter = 1320; leave = 1320 } ∷ []
unfolding level_at moment_at after second arrived rate_at next_stop candidates hold_at holding nearest triggers counting breaks_in_use those passed in_use gap
    toward heading stops stops_from segments segments_of pieces_in pieces_of piece seconds
pieces_c = refl

levels_c : level_at c_c 232 ∷ level_at c_c 311 ∷ level_at c_c 552 ∷ level_at c_c 702 ∷ level_at c_c 730 ∷ [] ≡ 1320 ∷ 1320 ∷ 1320 ∷ 1320 ∷ 1320 ∷ []
unfolding level_at moment_at after second arrived rate_at next_stop candidates hold_at holding nearest triggers counting breaks_in_use those passed in_use gap
    toward heading stops stops_from segments segments_of pieces_in pieces_of piece seconds
levels_c = refl

abbrev c_d : Trajectory
c_d = record {
  start = 3579;
  target = 60;
  lists = record {
    msg = 420;
    column = record { rates = 108 ∷ 176 ∷ 106 ∷ []; breaks = 2700 ∷ 3300 ∷ [] };
    soaks = record { level = 2580; minutes = 0 } ∷ record { level = 2880; minutes = 1 } ∷ [];
    up = record { rates = 69 ∷ 19 ∷ 168 ∷ 71 ∷ 30 ∷ []; breaks = 0 ∷ 540 ∷ 2940 ∷ 3180 ∷ [] };
    dwells = record { level = 2340; minutes = 2 } ∷ record { level = 420; minutes = 1 } ∷ record { level = 1680; minutes = 1 } ∷ [];
    down = record { rates = 73 ∷ 84 ∷ 94 ∷ 16 ∷ 37 ∷ []; breaks = 960 ∷ 1980 ∷ 2520 ∷ 3180 ∷ [] };
    deload = record { rates = 64 ∷ 168 ∷ []; breaks = 720 ∷ [] };
  };
}

stops_d : stops c_d ≡ 3180 ∷ 2520 ∷ 2340 ∷ 1980 ∷ 1680 ∷ 960 ∷ 420 ∷ 60 ∷ []
unfolding level_at moment_at after second arrived rate_at next_stop candidates hold_at holding nearest triggers counting breaks_in_use those passed in_use gap
    toward heading stops stops_from segments segments_of pieces_in pieces_of piece seconds
stops_d = refl

pieces_d : pieces_in c_d 0 800 ≡ record { from = 0; to = 10; enter = 3579; leave = 3209 } ∷ record { from = 10; to = 11; enter = 3209; leave = 3180 } ∷
    record { from = 11; to = 52; enter = 3180; leave = 2524 } ∷ record { from = 52; to = 53; enter = 2524; leave = 2520 } ∷ record
    { from = 53; to = 54; enter = 2520; leave = 2426 } ∷ record { from = 54; to = 55; enter = 2426; leave = 2340 } ∷ record
    { from = 55; to = 175; enter = 2340; leave = 2340 } ∷ record { from = 175; to = 178; enter = 2340; leave = 2058 } ∷ record
    { from = 178; to = 179; enter = 2058; leave = 1980 } ∷ record { from = 179; to = 182; enter = 1980; leave = 1728 } ∷ record
    { from = 182; to = 183; enter = 1728; leave = 1680 } ∷ record { from = 183; to = 243; enter = 1680; leave = 1680 } ∷ record
    { from = 243; to = 251; enter = 1680; leave = 1008 } ∷ record { from = 251; to = 252; enter = 1008; leave = 960 } ∷ record
    { from = 252; to = 259; enter = 960; leave = 449 } ∷ record { from = 259; to = 260; enter = 449; leave = 420 } ∷ record
    { from = 260; to = 320; enter = 420; leave = 420 } ∷ record { from = 320; to = 325; enter = 420; leave = 100 } ∷
    record { from = 325; to = 326; enter = 100; leave = 60 } ∷ record { from = 326; to = 800; enter = 60; leave = 60 }
    ∷ []
unfolding level_at moment_at after second arrived rate_at next_stop candidates hold_at holding nearest triggers counting breaks_in_use those passed in_use gap
    toward heading stops stops_from segments segments_of pieces_in pieces_of piece seconds
pieces_d = refl

levels_d : level_at c_d 147 ∷ level_at c_d 291 ∷ level_at c_d 490 ∷ level_at c_d 517 ∷ level_at c_d 569 ∷ [] ≡ 2340 ∷ 420 ∷ 60 ∷ 60 ∷ 60 ∷ []
unfolding level_at moment_at after second arrived rate_at next_stop candidates hold_at holding nearest triggers counting breaks_in_use those passed in_use gap
    toward heading stops stops_from segments segments_of pieces_in pieces_of piece seconds
levels_d = refl

abbrev c_e : Trajectory
c_e = record {
  start = 2669;
  target = 0;
  lists = record {
    msg = 780;
    column = record { rates = 157 ∷ 54 ∷ 176 ∷ []; breaks = 660 ∷ 3180 ∷ [] };
    soaks = record { level = 360; minutes = 2 } ∷ record { level = 2880; minutes = 1 } ∷ [];
    up = record { rates = 41 ∷ 13 ∷ 199 ∷ 24 ∷ 46 ∷ []; breaks = 60 ∷ 120 ∷ 2040 ∷ 3180 ∷ [] };
    dwells = record { level = 420; minutes = 0 } ∷ record { level = 2100; minutes = 1 } ∷ record { level = 780; minutes = 1 } ∷ [];
    down = record { rates = 71 ∷ 116 ∷ 32 ∷ 120 ∷ 115 ∷ []; breaks = 900 ∷ 1080 ∷ 1320 ∷ 1680 ∷ [] };
    deload = record { rates = 1 ∷ 18 ∷ []; breaks = 120 ∷ [] };
  };
}

stops_e : stops c_e ≡ 2100 ∷ 1680 ∷ 1320 ∷ 1080 ∷ 900 ∷ 780 ∷ 120 ∷ 0 ∷ []
unfolding level_at moment_at after second arrived rate_at next_stop candidates hold_at holding nearest triggers counting breaks_in_use those passed in_use gap
    toward heading stops stops_from segments segments_of pieces_in pieces_of piece seconds
stops_e = refl

pieces_e : pieces_in c_e 0 800 ≡ record { from = 0; to = 4; enter = 2669; leave = 2209 } ∷ record { from = 4; to = 5; enter = 2209; leave = 2100 } ∷
    record { from = 5; to = 65; enter = 2100; leave = 2100 } ∷ record { from = 65; to = 68; enter = 2100; leave = 1755 } ∷ record
    { from = 68; to = 69; enter = 1755; leave = 1680 } ∷ record { from = 69; to = 72; enter = 1680; leave = 1320 } ∷ record
    { from = 72; to = 79; enter = 1320; leave = 1096 } ∷ record { from = 79; to = 80; enter = 1096; leave = 1080 } ∷ record
    { from = 80; to = 81; enter = 1080; leave = 964 } ∷ record { from = 81; to = 82; enter = 964; leave = 900 } ∷ record
    { from = 82; to = 83; enter = 900; leave = 829 } ∷ record { from = 83; to = 84; enter = 829; leave = 780 } ∷ record
    { from = 84; to = 144; enter = 780; leave = 780 } ∷ record { from = 144; to = 180; enter = 780; leave = 132 } ∷ record
    { from = 180; to = 181; enter = 132; leave = 120 } ∷ record { from = 181; to = 301; enter = 120; leave = 0 } ∷ record
    { from = 301; to = 800; enter = 0; leave = 0 } ∷ []
unfolding level_at moment_at after second arrived rate_at next_stop candidates hold_at holding nearest triggers counting breaks_in_use those passed in_use gap
    toward heading stops stops_from segments segments_of pieces_in pieces_of piece seconds
pieces_e = refl

levels_e : level_at c_e 21 ∷ level_at c_e 200 ∷ level_at c_e 267 ∷ level_at c_e 344 ∷ level_at c_e 650 ∷ [] ≡ 2100 ∷ 101 ∷ 34 ∷ 0 ∷ 0 ∷ []
unfolding level_at moment_at after second arrived rate_at next_stop candidates hold_at holding nearest triggers counting breaks_in_use those passed in_use gap
    toward heading stops stops_from segments segments_of pieces_in pieces_of piece seconds
levels_e = refl

abbrev c_f : Trajectory
c_f = record {
  start = 3122;
  target = 780;
  lists = record {
    msg = 780;
    column = record { rates = 22 ∷ 62 ∷ 185 ∷ []; breaks = 1560 ∷ 1860 ∷ [] };
    soaks = record { level = 2100; minutes = 1 } ∷ record { level = 2640; minutes = 2 } ∷ [];
    up = record { rates = 166 ∷ 183 ∷ 126 ∷ 115 ∷ 5 ∷ []; breaks = 300 ∷ 840 ∷ 1080 ∷ 1500 ∷ [] };
    dwells = record { level = 2640; minutes = 1 } ∷ record { level = 2100; minutes = 1 } ∷ record { level = 2820; minutes = 1 } ∷ [];
    down = record { rates = 91 ∷ 180 ∷ 117 ∷ 70 ∷ 79 ∷ []; breaks = 420 ∷ 840 ∷ 960 ∷ 2760 ∷ [] };
    deload = record { rates = 50 ∷ 81 ∷ []; breaks = 420 ∷ [] };
  };
}

stops_f : stops c_f ≡ 2820 ∷ 2760 ∷ 2640 ∷ 2100 ∷ 960 ∷ 840 ∷ 780 ∷ []
unfolding level_at moment_at after second arrived rate_at next_stop candidates hold_at holding nearest triggers counting breaks_in_use those passed in_use gap
    toward heading stops stops_from segments segments_of pieces_in pieces_of piece seconds
stops_f = refl

pieces_f : pieces_in c_f 0 800 ≡ record { from = 0; to = 3; enter = 3122; leave = 2885 } ∷ record { from = 3; to = 4; enter = 2885; leave = 2820 } ∷
    record { from = 4; to = 64; enter = 2820; leave = 2820 } ∷ record { from = 64; to = 65; enter = 2820; leave = 2760 } ∷ record
    { from = 65; to = 66; enter = 2760; leave = 2690 } ∷ record { from = 66; to = 67; enter = 2690; leave = 2640 } ∷ record
    { from = 67; to = 127; enter = 2640; leave = 2640 } ∷ record { from = 127; to = 134; enter = 2640; leave = 2150 } ∷ record
    { from = 134; to = 135; enter = 2150; leave = 2100 } ∷ record { from = 135; to = 195; enter = 2100; leave = 2100 } ∷ record
    { from = 195; to = 211; enter = 2100; leave = 980 } ∷ record { from = 211; to = 212; enter = 980; leave = 960 } ∷ record
    { from = 212; to = 213; enter = 960; leave = 843 } ∷ record { from = 213; to = 214; enter = 843; leave = 840 } ∷ record
    { from = 214; to = 215; enter = 840; leave = 780 } ∷ record { from = 215; to = 800; enter = 780; leave = 780 } ∷ []
unfolding level_at moment_at after second arrived rate_at next_stop candidates hold_at holding nearest triggers counting breaks_in_use those passed in_use gap
    toward heading stops stops_from segments segments_of pieces_in pieces_of piece seconds
pieces_f = refl

levels_f : level_at c_f 283 ∷ level_at c_f 537 ∷ level_at c_f 603 ∷ level_at c_f 741 ∷ level_at c_f 778 ∷ [] ≡ 780 ∷ 780 ∷ 780 ∷ 780 ∷ 780 ∷ []
unfolding level_at moment_at after second arrived rate_at next_stop candidates hold_at holding nearest triggers counting breaks_in_use those passed in_use gap
    toward heading stops stops_from segments segments_of pieces_in pieces_of piece seconds
levels_f = refl
