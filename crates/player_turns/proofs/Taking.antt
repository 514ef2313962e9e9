-- Turns taken one after the other: what the first of them left, and that any more go on from there.
use Prim.Native.Nat.{ℕ, suc, ◌+◌, ◌-◌, ◌≤◌, ◌<◌}
use native.Mathlib.Omega.{arith}
use mathlib.Core.Bool.{Bool}
use mathlib.Core.List.{List, [], ◌∷◌, ◌++◌, append_assoc, append-nil, cons≢nil}
use mathlib.Core.Logic.{inl, inr}
use mathlib.Core.Path.{◌≡◌, refl, sym, ◌∙◌, ap, ap₂}
use lib.ListN.{length, take, drop, length-append, length-drop}
use lib.Seq.{take_at, drop_at, drop-drop}
use Rattle.layout.specs.Host.{filled}
use Rattle.player_text.specs.Turn.{Standing, Turn, turn, turns, followed}
use Rattle.layout.proofs.Host.{length-filled}
use Rattle.layout.proofs.Parts.{part-behind, put-behind}
use Rattle.player_text.proofs.Pieces.{turn-stuck}
use Rattle.player_turns.specs.declared.Engine.{Engine}
use Rattle.player_turns.specs.declared.Stage.{Stage}
use Rattle.player_lines.specs.Writing.{Wrote, turn_room}
use Rattle.player_turns.specs.Turns.{machine_of, standing, Stands, table_then, table_after_turns, Took}
use Rattle.player_turns.proofs.Turns.{table_stays}
use Rattle.player_turns.specs.Code.{Turned}

length-nil : (l : List ℕ) → length l ≡ 0 → l ≡ []
length-nil [] e = refl
length-nil (b ∷ l) e = absurd (omega arith)

module _ (engine : Engine) (last : Bool) (s₀ : Standing) (text table₀ out₀ : List ℕ) where
  -- so many turns are taken, they wrote w, and m more go on from there
  pub record Going (table out : List ℕ) (stage : Stage) (l used written : ℕ) : Type 0 where
    pub taken : ℕ
    pub w : List ℕ
    pub wrote : Wrote w out₀ out written
    pub room : length w ≤ length out₀
    pub within : used ≤ length text
    pub stands : Stands engine stage l table
    pub goes : (m : ℕ) → turns (machine_of engine) (taken + m) last s₀ text
        ≡ followed (record { written = w; left = drop used text; after = standing stage l table })
        (turns (machine_of engine) m last (standing stage l table) (drop used text))
    pub tables : (m : ℕ) → table_after_turns engine (taken + m) last s₀ text table₀
        ≡ table_after_turns engine m last (standing stage l table) (drop used text) table

  -- the buffer keeps its length
  wrote-length : (w out : List ℕ) (n : ℕ) → Wrote w out₀ out n → length w ≤ length out₀ → length out ≡ length out₀
  wrote-length w out n h room = ap length h.bytes ∙ length-filled w out₀ room

  pub going-length : {table out : List ℕ} {stage : Stage} {l used written : ℕ} → Going table out stage l used written
      → length out ≡ length out₀
  going-length g = wrote-length g.w _ _ g.wrote g.room

  pub going-room : {table out : List ℕ} {stage : Stage} {l used written : ℕ} → Going table out stage l used written
      → written ≤ length out
  going-room g = omega (arith, g.room, g.wrote.count, going-length g)

  -- none yet
  pub going-none : (stage : Stage) (l : ℕ) → s₀ ≡ standing stage l table₀ → Stands engine stage l table₀
      → Going table₀ out₀ stage l 0 0
  unfolding followed filled
  going-none stage l e h =
      record {
        taken = 0;
        w = [];
        wrote = record { bytes = refl; count = refl };
        room = omega arith;
        within = omega arith;
        stands = h;
        goes = λ m. let k : 0 + m ≡ m = omega arith in ap₂ (λ k s. turns (machine_of engine) k last s text) k e;
        tables = λ m. let k : 0 + m ≡ m = omega arith in ap₂ (λ k s. table_after_turns engine k last s text table₀) k e;
      }

  -- they may stop there, where the buffer may be too short for another
  pub going-stops : (table out : List ℕ) (stage : Stage) (l used written : ℕ) → Going table out stage l used written
      → length out - written < turn_room → Took engine last s₀ text table₀ out₀ table out stage l used written
  unfolding followed turns table_after_turns
  going-stops table out stage l used written g short =
      let all : turns (machine_of engine) (g.taken + 0) last s₀ text
      ≡ record { written = g.w ++ []; left = drop used text; after = standing stage l table } = g.goes 0 in
      record {
        many = g.taken + 0;
        left = record {
          wrote =
              record {
                bytes =
                    g.wrote.bytes ∙ ap (λ v. filled v out₀) (sym (append-nil g.w) ∙ sym (ap (λ x. x.written) all));
                count = g.wrote.count ∙ ap length (sym (append-nil g.w) ∙ sym (ap (λ x. x.written) all));
              };
          used =
              let size : length (drop used text) ≡ length text - used = length-drop used text in
              omega (arith, size, g.within, ap (λ x. length x.left) all);
          left = ap (λ x. x.left) all;
          after = sym (ap (λ x. x.after) all);
          stands = g.stands;
          table = sym (g.tables 0);
        };
        stopped = inr (omega (arith, going-length g));
      }

  -- a turn more, to which all that is behind is lent: as parts of the text and of the buffer
  module _ {table out : List ℕ} {stage : Stage} {l used written : ℕ} (g : Going table out stage l used written)
      {table' part : List ℕ} {stage' : Stage} {l' more n : ℕ}
      (given : let lent = take (length text - used) (drop used text) in
      Turned engine (turn (machine_of engine) last (standing stage l table) lent) lent table
      (take (length out - written) (drop written out)) table' part stage' l' more n)
      (kept-room : length part ≡ length (take (length out - written) (drop written out))) where
    same : length part ≡ length (drop written out)
    same = kept-room ∙ ap length (part-behind out written)

    t : Turned engine (turn (machine_of engine) last (standing stage l table) (drop used text)) (drop used text) table
        (drop written out) table' part stage' l' more n
    t = rw (part-behind text used, part-behind out written) at given

    abbrev out' : List ℕ
    out' = take written out ++ (part ++ drop (length out - written) (drop written out))

    abbrev x : Turn
    x = turn (machine_of engine) last (standing stage l table) (drop used text)

    abbrev so_far : Turn
    so_far = record { written = g.w; left = drop used text; after = standing stage l table }

    front : take written out ≡ g.w
    unfolding filled
    front =
        ap₂ take g.wrote.count g.wrote.bytes ∙ take_at g.w (drop (length g.w) out₀) (length g.w) refl

    back : drop written out ≡ drop (length g.w) out₀
    unfolding filled
    back =
        ap₂ drop g.wrote.count g.wrote.bytes ∙ drop_at g.w (drop (length g.w) out₀) (length g.w) refl

    all-size : length (g.w ++ x.written) ≤ length out₀
    unfolding filled
    all-size =
        let part-size : length part ≡ length x.written + (length (drop written out) - length x.written) =
        ap length t.wrote.bytes
        ∙ length-append x.written (drop (length x.written) (drop written out))
        ∙ ap (λ k. length x.written + k) (length-drop (length x.written) (drop written out)) in
        let rest-size : length (drop written out) ≡ length out₀ - length g.w =
        ap length back ∙ length-drop (length g.w) out₀ in
        omega (arith, part-size, same, rest-size, g.room, length-append g.w x.written)

    all-wrote : Wrote (g.w ++ x.written) out₀ out' (written + n)
    unfolding filled
    all-wrote =
        record {
          bytes =
              put-behind out written part
              ∙ ap₂ (λ a b. a ++ b) front
              (t.wrote.bytes ∙ ap (λ b. x.written ++ drop (length x.written) b) back
              ∙ ap (λ b. x.written ++ b) (drop-drop (length x.written) (length g.w) out₀))
              ∙ sym (append_assoc g.w x.written (drop (length g.w + length x.written) out₀))
              ∙ ap (λ k. (g.w ++ x.written) ++ drop k out₀) (sym (length-append g.w x.written));
          count = ap₂ ◌+◌ g.wrote.count t.wrote.count ∙ sym (length-append g.w x.written);
        }

    all_left : x.left ≡ drop (used + more) text
    all_left = t.left ∙ drop-drop more used text

    pub all-within : used + more ≤ length text
    all-within =
        let size : length (drop used text) ≡ length text - used = length-drop used text in
        omega (arith, size, g.within, t.used)

    wrote : (n ≡ 0 → ⊥) → (x.written ≡ [] → ⊥)
    wrote h z = h (t.wrote.count ∙ ap length z)

    turns-wrote : (m : ℕ) → (x.written ≡ [] → ⊥)
        → turns (machine_of engine) (suc m) last (standing stage l table) (drop used text)
        ≡ followed x (turns (machine_of engine) m last x.after x.left)
    unfolding turns
    turns-wrote m some = go x.written refl
      where
        go : (v : List ℕ) → x.written ≡ v
            → elim v as (λ _. Turn) [ [] ↦ x | b ∷ w ↦ followed x (turns (machine_of engine) m last x.after x.left) ]
            ≡ followed x (turns (machine_of engine) m last x.after x.left)
        go [] z = absurd (some z)
        go (b ∷ v) z = refl

    tables_wrote : (m : ℕ) → (x.written ≡ [] → ⊥)
        → table_after_turns engine (suc m) last (standing stage l table) (drop used text) table
        ≡ table_after_turns engine m last x.after x.left (table_then x.after table)
    unfolding table_after_turns
    tables_wrote m some = go x.written refl
      where
        go : (v : List ℕ) → x.written ≡ v
            → elim v as (λ _. List ℕ) [
              | [] ↦ table
              | b ∷ w ↦ table_after_turns engine m last x.after x.left (table_then x.after table)
            ]
            ≡ table_after_turns engine m last x.after x.left (table_then x.after table)
        go [] z = absurd (some z)
        go (b ∷ v) z = refl

    -- two turns behind the first ones
    behind : (y : Turn) → followed so_far (followed x y)
        ≡ followed (record { written = g.w ++ x.written; left = x.left; after = x.after }) y
    unfolding followed
    behind y =
        ap (λ v. record { written = v; left = y.left; after = y.after })
        (sym (append_assoc g.w x.written y.written))

    -- one that wrote nothing leaves the table
    kept : x.written ≡ [] → table_then x.after table ≡ table
    kept none =
        ap (λ s. table_then s table)
        (turn-stuck (machine_of engine) last (standing stage l table) (drop used text) none).1
        ∙ table_stays engine stage l table g.stands

    turns-still : x.written ≡ [] → turns (machine_of engine) 1 last (standing stage l table) (drop used text) ≡ x
    unfolding turns
    turns-still none = go x.written refl
      where
        go : (v : List ℕ) → x.written ≡ v
            → elim v as (λ _. Turn) [ [] ↦ x | b ∷ w ↦ followed x (turns (machine_of engine) 0 last x.after x.left) ]
            ≡ x
        go [] z = refl
        go (b ∷ v) z = absurd (cons≢nil (sym z ∙ none))

    tables-still : x.written ≡ [] → table_after_turns engine 1 last (standing stage l table) (drop used text) table ≡ table
    unfolding table_after_turns
    tables-still none = go x.written refl
      where
        go : (v : List ℕ) → x.written ≡ v
            → elim v as (λ _. List ℕ) [
              | [] ↦ table
              | b ∷ w ↦ table_after_turns engine 0 last x.after x.left (table_then x.after table)
            ]
            ≡ table
        go [] z = refl
        go (b ∷ v) z = absurd (cons≢nil (sym z ∙ none))

    -- and so would the next
    again : x.written ≡ [] → (turn (machine_of engine) last x.after x.left).written ≡ []
    again none =
        let (left, after) = turn-stuck (machine_of engine) last (standing stage l table) (drop used text) none in
        ap₂ (λ s b. (turn (machine_of engine) last s b).written) after left ∙ none

    pub all_room : written + n ≤ length out₀
    all_room = omega (arith, all-size, all-wrote.count)

    pub all-length : length out' ≡ length out₀
    all-length = wrote-length (g.w ++ x.written) _ (written + n) all-wrote all-size

    -- one more that wrote something
    pub going_on : (n ≡ 0 → ⊥) → Going table' out' stage' l' (used + more) (written + n)
    unfolding followed
    going_on h =
        record {
          taken = g.taken + 1;
          w = g.w ++ x.written;
          wrote = all-wrote;
          room = omega (arith, all-size);
          within = all-within;
          stands = t.stands;
          goes =
              λ m.
              let k : g.taken + 1 + m ≡ g.taken + suc m = omega arith in
              ap (λ k. turns (machine_of engine) k last s₀ text) k
              ∙ g.goes (suc m)
              ∙ ap (followed so_far) (turns-wrote m (wrote h))
              ∙ behind (turns (machine_of engine) m last x.after x.left)
              ∙ ap₂ (λ b a. followed (record { written = g.w ++ x.written; left = b; after = a })
              (turns (machine_of engine) m last a b))
              all_left (sym t.after);
          tables =
              λ m.
              let k : g.taken + 1 + m ≡ g.taken + suc m = omega arith in
              ap (λ k. table_after_turns engine k last s₀ text table₀) k
              ∙ g.tables (suc m)
              ∙ tables_wrote m (wrote h)
              ∙ ap₂ (λ b a. table_after_turns engine m last a b (table_then x.after table)) all_left (sym t.after)
              ∙ ap (table_after_turns engine m last (standing stage' l' table') (drop (used + more) text)) (sym t.table);
        }

    -- one more that wrote nothing
    pub going-ends : n ≡ 0 → Took engine last s₀ text table₀ out₀ table' out' stage' l' (used + more) (written + n)
    unfolding followed
    going-ends h =
        let none : x.written ≡ [] = length-nil x.written (sym t.wrote.count ∙ h) in
        let all : turns (machine_of engine) (g.taken + 1) last s₀ text
        ≡ record { written = g.w ++ x.written; left = x.left; after = x.after } =
        g.goes 1 ∙ ap (followed so_far) (turns-still none) in
        record {
          many = g.taken + 1;
          left = record {
            wrote =
                record {
                  bytes = all-wrote.bytes ∙ ap (λ y. filled y.written out₀) (sym all);
                  count = all-wrote.count ∙ ap (λ y. length y.written) (sym all);
                };
            used =
                let size : length (drop (used + more) text) ≡ length text - (used + more) =
                length-drop (used + more) text in
                omega (arith, size, all-within, ap length all_left, ap (λ y. length y.left) all);
            left = ap (λ y. y.left) all ∙ all_left;
            after = t.after ∙ sym (ap (λ y. y.after) all);
            stands = t.stands;
            table = t.table ∙ kept none ∙ sym (g.tables 1 ∙ tables-still none);
          };
          stopped = inl (ap (λ y. (turn (machine_of engine) last y.after y.left).written) all ∙ again none);
        }
