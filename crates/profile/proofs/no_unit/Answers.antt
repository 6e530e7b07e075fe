use Rattle.records.specs.Records.{unit_of, column_of, trigger_of}
use Rattle.profile.proofs.Zeros.{all_of}
use Rattle.profile.proofs.no_unit.Goals as goal

pub returns : goal.returns
unfolding unit_of column_of trigger_of
returns c = let h = c.default.ensures in λ i. record {
  capacity = h.0 i;
  maximum = h.1.0 i;
  msg = h.1.1.0 i;
  hot = h.1.1.1.0 i;
  warm = h.1.1.1.1.0 i;
  columns = all_of _ _ (λ x e. λ j. record {
    block = e.0 j;
    rates = all_of _ 0 (λ y f. f) _ 3 e.1.0 j;
    breaks = all_of _ 0 (λ y f. f) _ 2 e.1.1.0 j;
    soaks = all_of _ _ (λ y f. λ k. record { level = f.0 k; minutes = f.1 k }) _ 2 e.1.1.1 j;
  }) _ 3 h.1.1.1.1.1.0 i;
  up = record {
    rates = all_of _ 0 (λ y f. f) _ 5 h.1.1.1.1.1.1.0.0 i;
    breaks = all_of _ 0 (λ y f. f) _ 4 h.1.1.1.1.1.1.0.1 i;
  };
  dwells = all_of _ _ (λ y f. λ k. record { level = f.0 k; minutes = f.1 k }) _ 3 h.1.1.1.1.1.1.1.0 i;
  down = record {
    rates = all_of _ 0 (λ y f. f) _ 5 h.1.1.1.1.1.1.1.1.0.0 i;
    breaks = all_of _ 0 (λ y f. f) _ 4 h.1.1.1.1.1.1.1.1.0.1 i;
  };
  deload = record {
    rates = all_of _ 0 (λ y f. f) _ 2 h.1.1.1.1.1.1.1.1.1.0 i;
    breaks = all_of _ 0 (λ y f. f) _ 1 h.1.1.1.1.1.1.1.1.1.1 i;
  };
}
