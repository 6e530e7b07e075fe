-- Bytes put one after another into a place that keeps the laws of a sink, and the two places that do.
use Prim.Native.Nat.{ℕ, ◌+◌, ◌-◌, ◌<◌, ◌≤◌}
use mathlib.Core.Path.{◌≡◌, refl, sym, ap, ◌∙◌}
use mathlib.Core.List.{List, [], ◌∷◌, ◌++◌, append_assoc, append-nil}
use native.Mathlib.Omega.{arith}
use native.Mathlib.Nat.{add-zero, zero-add}
use lib.ListN.{length, set, take, drop, length-append, length-take, length-drop, drop_of_length-le}
use lib.Seq.{drop-drop, take_at, drop_at, take_all}
use Rattle.std.proofs.lemmas.List.{take-append-drop, take-set, drop-set}
use Rattle.lines.specs.Writing.{Written, Filled, SinkLaws}
use Rattle.lines.specs.Filled.{filled_none, filled_length, filled_more}
use Rattle.lines.proofs.Laying.{Next}

-- ---- any sink

-- of `whole`, at most `most` bytes, the sink s has taken what comes before `rest` and is t now; `rest`, at most `left` bytes, is to come
pub record Putting {S : Type 0} (has_room : S → List ℕ → ℕ → Type 0) (takes : S → List ℕ → ℕ → S → Type 0) (s : S) (whole rest : List ℕ)
    (most left : ℕ) (t : S) : Type 0 where
  pub room : has_room t rest left
  pub ends : (u : S) → takes t rest left u → takes s whole most u

module _ {S : Type 0} {has_room : S → List ℕ → ℕ → Type 0} {takes : S → List ℕ → ℕ → S → Type 0} (laws : SinkLaws has_room takes)
    {s : S} {whole : List ℕ} {most : ℕ} where
  -- nothing is put yet
  pub put_none : {l : ℕ} → l ≤ most → has_room s whole most → Putting has_room takes s whole whole most l s
  put_none {l} h room =
      let e : takes s [] 0 s = laws.none s 0 (laws.first s [] whole 0 most (omega arith) room) in
      record { room = laws.rest s s [] whole 0 l most (omega arith) room e; ends = λ u f. laws.more s s u [] whole 0 l most (omega arith) e f }

  -- x, which comes next, has room
  pub put_next : {t : S} {left x rest : List ℕ} {j l : ℕ} → Next left x rest → Putting has_room takes s whole left most l t → j ≤ l → has_room t x j
  put_next {t} {left} {x} {rest} {j} {l} n p h = laws.first t x rest j l h (rw n.parts at p.room)

  -- x is put
  pub put_more : {t u : S} {left x rest : List ℕ} {j k l : ℕ} → Next left x rest → Putting has_room takes s whole left most l t → j + k ≤ l →
      takes t x j u → Putting has_room takes s whole rest most k u
  put_more {t} {u} {left} {x} {rest} {j} {k} {l} n p h e =
      let ends : (v : S) → takes t (x ++ rest) l v → takes s whole most v = rw n.parts at p.ends in
      record {
        room = laws.rest t u x rest j k l h (rw n.parts at p.room) e;
        ends = λ v f. ends v (laws.more t u v x rest j k l h e f);
      }

  -- nothing is to come
  pub put_all : {t : S} {left : List ℕ} {l : ℕ} → left ≡ [] → Putting has_room takes s whole left most l t → takes s whole most t
  put_all {t} {left} {l} z p =
      let room : has_room t [] l = rw z at p.room in
      let ends : (v : S) → takes t [] l v → takes s whole most v = rw z at p.ends in
      ends t (laws.none t l room)

-- ---- kept
-- one byte is stored
pub filled_byte : (o : List ℕ) (at a : ℕ) → at < length o → Filled (a ∷ []) at (at + 1) o (set o at a)
filled_byte o at a h = record {
  room = omega arith;
  to_is = refl;
  bytes = sym (take-append-drop at (set o at a)) ∙ (λ i. take-set o at a i ++ drop-set o at a h i);
}

-- the tail from a byte on is written to
pub filled_tail : {xs o q : List ℕ} {at w : ℕ} → at + length xs ≤ length o → Written xs w (take (length o - at) (drop at o)) q →
    Filled xs at (at + w) o (take at o ++ (q ++ drop (length o - at) (drop at o)))
filled_tail {xs} {o} {q} {at} {w} h f =
    let whole : take (length o - at) (drop at o) ≡ drop at o = take_all (length o - at) (drop at o) (omega (arith, length-drop at o)) in
    let none : drop (length o - at) (drop at o) ≡ [] = drop_of_length-le (drop at o) {i = length o - at} (omega (arith, length-drop at o)) in
    let tail : q ≡ xs ++ drop (at + length xs) o = f.bytes ∙ rw (whole, drop-drop) in
    record {
      room = h;
      to_is = omega (arith, f.count_is);
      bytes = rw none (ap (λ (l : List ℕ). take at o ++ l) (append-nil q ∙ tail));
    }

-- from the first byte on
pub filled_front : {xs o p : List ℕ} {to : ℕ} → Filled xs 0 to o p → Written xs to o p
filled_front f = record { count_is = omega (arith, f.to_is); bytes = rw zero-add at f.bytes }

-- a slice with how far it is filled, as a sink
pub record Slice : Type 0 where
  pub out : List ℕ
  pub at : ℕ

abbrev pub slice : List ℕ → ℕ → Slice
slice o n = record { out = o; at = n }

abbrev pub fits : Slice → List ℕ → ℕ → Type 0
fits s xs most = s.at + length xs ≤ length s.out

abbrev pub fills : Slice → List ℕ → ℕ → Slice → Type 0
fills s xs most t = Filled xs s.at t.at s.out t.out

pub filling : SinkLaws fits fills
filling = record {
  none = λ s k h. filled_none (omega arith);
  more = λ s t u xs ys j k l h f g. filled_more f g;
  first = λ s xs ys j l h r. omega (arith, length-append xs ys);
  rest = λ s t xs ys j k l h r f. omega (arith, length-append xs ys, f.to_is, filled_length f);
}
