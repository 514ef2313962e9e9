-- One line behind the other.
use Rattle.std.proofs.Common.{arith, length-append}
use Rattle.trace.specs.declared.Key.TheVariants.{Ports, First}
use Rattle.trace.specs.Line.{line}
use Rattle.trace.proofs.Tests.{fits32-i}
use Rattle.trace_line_writer.proofs.Lines.{put-two}
use Rattle.player_lines.proofs.Lines.{line-le, wrote-put}
use Rattle.player_lines.proofs.put_header.Goals as goal

pub returns : goal.returns
returns c =
    let s = c.args in
    let ports = line-le Ports s.ports (fits32-i _ (omega arith)) in
    let number = line-le First s.first (fits32-i _ (omega arith)) in
    let both = length-append (line Ports s.ports) (line First s.first) in
    let h = rw (c.new.ensures, c.new-2.ensures) at (put-two _ _ c.put_lines.ensures) in
    wrote-put (omega (arith, ports, number, both)) (omega arith) h
