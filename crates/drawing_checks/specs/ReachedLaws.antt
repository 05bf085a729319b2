-- Marks-devices of the reached devices: none, one more, a cable's ends, a round, all rounds. Assumes nothing.
use Rattle.std.specs.Prelude.{◌≡◌, refl, Bool, ◌||◌, ℕ, zero, suc, ◌+◌, ◌<◌, eqb, get_or, set, replicate}
use Rattle.std.proofs.Math.Path.{sym}
use Rattle.std.proofs.Common.{◌∙◌, add-one, eqb-true, length-set, get_or-set_same, get_or-set_other}
use Rattle.std.proofs.Math.Bool.{true, false}
use mathlib.Core.List.{List, [], ◌∷◌}
use native.Mathlib.Omega.{arith}
use Rattle.std.proofs.lemmas.Bool.{eqb-false}
use Rattle.std.proofs.lemmas.List.{get_or-replicate}
use Rattle.laws.specs.Lists.{snoc}
use Rattle.laws.specs.Rows.{rows}
use Rattle.graphs.specs.Drawing.{Cable, cables_in, member, with_ends, spread, reached, connected, drawing_in}
use Rattle.drawing_checks.specs.declared.reached.Reached.{Reached}
use Rattle.records.specs.declared.drawing.Drawing.{Drawing}
use Rattle.records.specs.declared.cable.Cable as held
use Rattle.records.specs.Drawings.{CountsWithin}
use Rattle.records.specs.DrawingCables.{as_cable, cable_at, cables_before}
use Rattle.records.specs.CableLaws.{before_next, sound_first, sound_second}
use Rattle.records.specs.DrawingLaws.{drawing_devices, drawing_cables}
use Rattle.drawing_checks.specs.Reached.{MarksDevices, MarksOneMore, MarksEnds, MarksSpread, EndsLow, SoundCables}

-- MARKS
pub marks_none : MarksDevices (record { marks = replicate 10 false; count = 0 }) []
unfolding member
marks_none = record { wide = refl; says = λ v h. get_or-replicate 10 v false false h; size = refl }

pub marks_more : (r : Reached) (vs : List ℕ) (v : ℕ) → v < 10 → MarksDevices r vs
    → MarksDevices (record { marks = set r.marks v true; count = r.count + 1 }) (v ∷ vs)
unfolding member
marks_more r vs v h m =
    record {
      wide = length-set r.marks v true ∙ m.wide;
      says = λ w g. at w g (eqb v w) refl;
      size = omega (arith, m.size);
    }
  where
    at : (w : ℕ) → w < 10 → (t : Bool) → eqb v w ≡ t → get_or (set r.marks v true) w false ≡ (t || member w vs)
    at w g true e = rw (← eqb-true v w e) (get_or-set_same r.marks v true false (omega (arith, m.wide)))
    at w g false e = get_or-set_other r.marks v w true false (λ q. eqb-false v w e (sym q)) ∙ m.says w g

-- A CABLE takes up its other end, by what the marks of its ends say
module _ (q : Reached) (c : held.Cable) (first : c.a < 10) (second : c.b < 10) where
  pub ends_kept : (t : Bool) → get_or q.marks c.a false ≡ t → get_or q.marks c.b false ≡ t → MarksEnds q c q
  unfolding with_ends
  ends_kept t p r =
      record {
        step = λ vs m. go vs m t (sym (m.says c.a first) ∙ p) (sym (m.says c.b second) ∙ r);
        most = omega arith;
      }
    where
      go : (vs : List ℕ) → MarksDevices q vs → (t : Bool) → member c.a vs ≡ t → member c.b vs ≡ t
          → MarksDevices q (with_ends (as_cable c) vs)
      go vs m true f g = simp (f, g) m
      go vs m false f g = simp (f, g) m

  module _ (r : Reached) where
    pub ends_second : get_or q.marks c.a false ≡ true → get_or q.marks c.b false ≡ false
        → MarksOneMore q c.b r → MarksEnds q c r
    unfolding with_ends
    ends_second f g n =
        record {
          step = λ vs m. simp (sym (m.says c.a first) ∙ f, sym (m.says c.b second) ∙ g) (n.step vs m);
          most = n.most;
        }

    pub ends_first : get_or q.marks c.a false ≡ false → get_or q.marks c.b false ≡ true
        → MarksOneMore q c.a r → MarksEnds q c r
    unfolding with_ends
    ends_first f g n =
        record {
          step = λ vs m. simp (sym (m.says c.a first) ∙ f, sym (m.says c.b second) ∙ g) (n.step vs m);
          most = n.most;
        }

-- ONE MORE cable, one more round
pub spread_next : (cs : List Cable) (c : Cable) (vs : List ℕ) → spread (snoc cs c) vs ≡ with_ends c (spread cs vs)
unfolding spread
spread_next [] c vs = refl
spread_next (d ∷ cs) c vs = spread_next cs c (with_ends d vs)

pub reached_next : (k : ℕ) (cs : List Cable) (vs : List ℕ) → reached (k + 1) cs vs ≡ spread cs (reached k cs vs)
unfolding reached
reached_next zero cs vs = refl
reached_next (suc k) cs vs = rw add-one (rw add-one at (reached_next k cs (spread cs vs)))

-- A ROUND, cable by cable
module _ (bs : List ℕ) (q : Reached) where
  pub round_start : MarksSpread 0 bs q q
  unfolding cables_in rows spread
  round_start = record { step = λ vs m. m; most = omega arith }

  pub round_next : (c : ℕ) (r s : Reached) (k : held.Cable)
      → MarksSpread c bs q r → MarksEnds r k s → as_cable k ≡ cable_at bs c → MarksSpread (c + 1) bs q s
  round_next c r s k before ends is =
      record {
        step = λ vs m. rw (before_next c bs, spread_next, ← is) (ends.step (spread (cables_before c bs) vs) (before.step vs m));
        most = omega (arith, before.most, ends.most);
      }

-- ALL ROUNDS
module _ (bs : List ℕ) (d : Drawing) where
  -- what k rounds reach from device 0
  abbrev pub after_rounds : ℕ → List ℕ
  after_rounds k = reached k (cables_before d.cables bs) (0 ∷ [])

  pub rounds_start : (r : Reached) → MarksDevices r (0 ∷ []) → MarksDevices r (after_rounds 0)
  unfolding reached
  rounds_start r m = m

  pub rounds_next : (k : ℕ) (q r : Reached) → MarksDevices q (after_rounds k) → MarksSpread d.cables bs q r → MarksDevices r
      (after_rounds (k + 1))
  rounds_next k q r m s = rw (reached_next k (cables_before d.cables bs) (0 ∷ [])) (s.step (after_rounds k) m)

  pub rounds_end : CountsWithin bs d → (r : Reached) → MarksDevices r (after_rounds d.devices)
      → eqb r.count d.devices ≡ connected (drawing_in bs)
  unfolding connected
  rounds_end h r m = rw (drawing_devices bs d h, drawing_cables bs d h, m.size)

  -- no cable is refused: its ends have marks
  pub sound_low : SoundCables bs d → EndsLow d.cables bs
  sound_low h =
      record {
        few = h.counted.cables_most;
        first = λ c l. omega (arith, h.counted.devices_most, sound_first d.devices d.cables bs h.sound c l);
        second = λ c l. omega (arith, h.counted.devices_most, sound_second d.devices d.cables bs h.sound c l);
      }
