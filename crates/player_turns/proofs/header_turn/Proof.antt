-- The header's answer says how the turn goes: the trace is opened, refused, or more text is needed.
use native.Mathlib.Omega.{arith}
use mathlib.Core.Path.{◌∙◌, ap₂}
use borrow.Author.Rules.{rules}
use Rattle.model.specs.State
use Rattle.layout.specs.Host.{filled}
use Rattle.layout.specs.Table.{encode}
use Rattle.trace.specs.Lines.{refusal_text}
use Rattle.player_lines.proofs.Lines.{wrote-refusal}
use Rattle.player_turns.proofs.Turns.{header-open, header_refused, header-short}
use Rattle.player_turns.proofs.header_turn.Statement.{statement}
use Rattle.player_turns.proofs.header_turn.Tie as tie

read-header-requires : tie.Need-read_header-requires
read-header-requires c κs = search rules

enum-known-ports : tie.Need-enum_known-ports
enum-known-ports c = search rules

fresh-requires : tie.Need-fresh-requires
fresh-requires c κs = search rules

write-fresh-requires : tie.Need-write_fresh-requires
write-fresh-requires c κs = search rules

put-header-requires : tie.Need-put_header-written-requires
put-header-requires c κs = search rules

enum-known-refusal : tie.Need-enum_known-refusal
enum-known-refusal c = search rules

cast-put-refusal : tie.Need-overflow_cast-fault
cast-put-refusal c = search rules

put-refusal-requires : tie.Need-put_refusal-written-requires
put-refusal-requires c κs = search rules

over-requires : tie.Need-over-requires
over-requires c κs = search rules

enum_told : tie.Need-enum_told-1
enum_told c = search rules

same_length : tie.Need-shape_of-table
same_length c = search rules

same-length-2 : tie.Need-shape_of-out-in-Open
same-length-2 c = search rules

returns : tie.Need-returns-in-Open
returns c engine =
    header-open engine c.args.last c.args.text.now c.args.table.now c.args.out.now
    c.requires.0 c.read_header.ensures c.in-Open.is c.write_fresh.new.table c.put_header-written.new.out
    c.put_header-written.result
    (c.write_fresh.ensures
    ∙ ap₂ (λ n f. filled (encode (State.fresh n f)) c.args.table.now) c.fresh.ensures.0 c.fresh.ensures.1)
    c.put_header-written.ensures

same-length-3 : tie.Need-shape_of-out-in-Refused
same-length-3 c = search rules

returns-2 : tie.Need-returns-in-Refused
unfolding refusal_text
returns-2 c engine =
    let fault = c.in-Refused.fault in
    header_refused engine c.args.last c.args.text.now c.args.table.now c.args.out.now
    c.requires.0 c.read_header.ensures c.in-Refused.is c.put_refusal-written.new.out c.over.result.stage
    c.over.result.line c.over.result.used c.put_refusal-written.result c.over.result.written
    (wrote-refusal c.in-Refused.refusal fault (omega arith) c.requires.1 (omega arith)
    c.put_refusal-written.ensures) c.over.ensures

returns-3 : tie.Need-returns-in-Short
returns-3 c engine =
    header-short engine c.args.last c.args.text.now c.args.table.now c.args.out.now
    c.requires.0 c.read_header.ensures c.in-Short.is

pub header_turn_spec : {M : Type 1} → statement M
header_turn_spec =
    tie.close
    (tie.spec
    read-header-requires
    enum-known-ports
    fresh-requires
    write-fresh-requires
    put-header-requires
    enum-known-refusal
    cast-put-refusal
    put-refusal-requires
    over-requires
    enum_told
    same_length
    same-length-2
    returns
    same-length-3
    returns-2
    returns-3)
