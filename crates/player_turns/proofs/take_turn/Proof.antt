-- By the stage.
use mathlib.Core.Path.{sym, subst}
use borrow.Author.Rules.{rules}
use Rattle.layout.specs.Entry.{clock_in}
use Rattle.layout.specs.Table.{state_of}
use Rattle.player_text.specs.Turn.{turn}
use Rattle.player_turns.specs.Turns.{machine_of, standing}
use Rattle.player_turns.proofs.Turns.{at-end, at-refusal, rests}
use Rattle.player_turns.proofs.take_turn.Statement.{statement}
use Rattle.player_turns.proofs.take_turn.Tie as tie
use Rattle.player_turns.specs.Code.{Turned}

enum_told : tie.Need-enum_told-1
enum_told c = search rules

header-turn-requires : tie.Need-header_turn-requires
header-turn-requires c κs = search rules

enum-told-2 : tie.Need-enum_told-in-Playing
enum-told-2 c = search rules

next-turn-requires : tie.Need-next_turn-requires
next-turn-requires c κs =
    (c.requires.0.good c.in-Playing.is, (c.requires.0.few c.in-Playing.is, c.requires.1))

enum-told-3 : tie.Need-enum_told-in-Ended
enum-told-3 c = search rules

over-requires : tie.Need-over-requires
over-requires c κs = search rules

enum-told-4 : tie.Need-enum_told-in-TurnedBack
enum-told-4 c = search rules

over-requires-2 : tie.Need-over-requires-in-TurnedBack
over-requires-2 c κs = search rules

same_length : tie.Need-shape_of-table-in-Opening
same_length c = search rules

same-length-2 : tie.Need-shape_of-out-in-Opening
same-length-2 c = search rules

returns : tie.Need-returns-in-Opening
unfolding turn standing
returns c =
    let a = c.args in
    let r = c.header_turn.result in
    subst
    (λ s. Turned a.engine (turn (machine_of a.engine) a.last (standing s a.line a.table.now) a.text.now)
    a.text.now a.table.now a.out.now
    c.header_turn.new.table c.header_turn.new.out r.stage r.line r.used r.written)
    (sym c.in-Opening.is) (c.header_turn.ensures a.engine)

same-length-3 : tie.Need-shape_of-table-in-Playing
same-length-3 c = search rules

same-length-4 : tie.Need-shape_of-out-in-Playing
same-length-4 c = search rules

returns-2 : tie.Need-returns-in-Playing
unfolding turn standing state_of clock_in
returns-2 c =
    let a = c.args in
    let r = c.next_turn.result in
    subst
    (λ s. Turned a.engine (turn (machine_of a.engine) a.last (standing s a.line a.table.now) a.text.now)
    a.text.now a.table.now a.out.now
    c.next_turn.new.table c.next_turn.new.out r.stage r.line r.used r.written)
    (sym c.in-Playing.is) c.next_turn.ensures

returns-3 : tie.Need-returns-in-Ended
returns-3 c =
    rests _ at-end _ _ _ _ _ _ c.requires.0.size c.in-Ended.is _ _ _ _ c.over.ensures

returns-4 : tie.Need-returns-in-TurnedBack
returns-4 c =
    rests _ at-refusal _ _ _ _ _ _ c.requires.0.size c.in-TurnedBack.is _ _ _ _ c.over-in-TurnedBack.ensures

pub take_turn_spec : {M : Type 1} → statement M
take_turn_spec =
    tie.close
    (tie.spec
    enum_told
    header-turn-requires
    enum-told-2
    next-turn-requires
    enum-told-3
    over-requires
    enum-told-4
    over-requires-2
    same_length
    same-length-2
    returns
    same-length-3
    same-length-4
    returns-2
    returns-3
    returns-4)
