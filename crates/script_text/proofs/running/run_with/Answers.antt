use Rattle.std.proofs.Common.{◌≡◌, ℕ, ◌^◌, take, arith, inr, subst}
use Rattle.script_text.specs.declared.source.Piece.TheVariants as pieces
use Rattle.std.proofs.lemmas.List.{length-take}
use Rattle.script_text.proofs.RunLemmas.{at_first, fails_exit, ends_exit, read_exit, starved_exit, stays_exit, goes_on}
use Rattle.script_text.proofs.RunLemmas.{waits}
use Rattle.script_text.proofs.running.run_with.Goals as goal
use Rattle.script_text.proofs.running.run_with.Goals.{in-Octets+in_default, in-Interrupted}

octets_end : {n : ℕ} → pieces.Octets n ≡ pieces.End → ⊥
octets_end e = absurd cc

interrupted_end : pieces.Interrupted ≡ pieces.End → ⊥
interrupted_end e = absurd cc

pub loop-init : goal.loop-init
loop-init g c = record {
  line = omega (arith, c.requires.script.1);
  midline = c.requires.midline;
  calls = g.met.S.ScriptSource.at_first c.args.reader.now;
  so_far = λ decoding input heard e. at_first decoding input heard _ _ c.args.script.now c.requires.script e;
}

pub returns-in-Err-clause-run : goal.returns-in-Err-clause-run
returns-in-Err-clause-run g c =
    fails_exit (g.S.ScriptSource.rest c.args.reader.now) (g.S.ScriptSource.rest c.loop.reader)
    (g.S.ScriptSource.rest c.read_some.new.self) (g.T.TextSink.held c.args.writer.now) (g.T.TextSink.held c.loop.writer)
    (g.T.TextSink.held c.feed.new.writer)
    c.loop.script c.feed.new.self (take c.in-Octets.n c.read_some.new.chunk) c.in-Err.fault c.loop.invariant.so_far
    c.in-Octets.ensures.piece.1 c.in-Err.ensures.step

pub returns-in-End-clause-run : goal.returns-in-End-clause-run
returns-in-End-clause-run g c =
    ends_exit (g.S.ScriptSource.rest c.args.reader.now) (g.S.ScriptSource.rest c.loop.reader)
    (g.S.ScriptSource.rest c.read_some.new.self) (g.T.TextSink.held c.args.writer.now) (g.T.TextSink.held c.loop.writer)
    (g.T.TextSink.held c.finish.new.writer)
    c.loop.script c.finish.result c.loop.invariant.so_far c.in-End.ensures.piece.0 c.in-End.ensures.piece.1
    c.finish.ensures.end

pub returns-in-OutOfMemory-clause-run : goal.returns-in-OutOfMemory-clause-run
returns-in-OutOfMemory-clause-run g c =
    starved_exit (g.S.ScriptSource.rest c.args.reader.now) (g.S.ScriptSource.rest c.loop.reader)
    (g.S.ScriptSource.rest c.read_some.new.self) (g.T.TextSink.held c.args.writer.now) (g.T.TextSink.held c.loop.writer)
    c.loop.script c.loop.invariant.so_far c.in-OutOfMemory.ensures.piece c.loop.invariant.midline

pub returns-in-Failed-clause-run : goal.returns-in-Failed-clause-run
returns-in-Failed-clause-run g c =
    read_exit (g.S.ScriptSource.rest c.args.reader.now) (g.S.ScriptSource.rest c.loop.reader)
    (g.S.ScriptSource.rest c.read_some.new.self) (g.T.TextSink.held c.args.writer.now) (g.T.TextSink.held c.loop.writer)
    c.loop.script c.loop.invariant.so_far c.in-Failed.ensures.piece c.loop.invariant.midline

pub returns-clause-run : goal.returns-clause-run
returns-clause-run g c =
    stays_exit (g.S.ScriptSource.rest c.args.reader.now) (g.S.ScriptSource.rest c.loop.reader)
    (g.T.TextSink.held c.args.writer.now) (g.T.TextSink.held c.loop.writer)
    c.loop.script c.loop.invariant.so_far c.loop.invariant.midline

pub loop-preserved : goal.loop-preserved
loop-preserved g c =
    elim c.match-read_some.branch [
      | in-Octets+in_default w ↦
          record {
            midline = rw w.script-is w.feed.ensures.midline;
            calls = w.in-Octets.ensures.counted c.loop.counter c.args.reader.now c.loop.invariant.calls octets_end;
            line =
                rw w.script-is
                (omega (arith, w.in_default.ensures.line, length-take w.in-Octets.n c.read_some.new.chunk));
            so_far = λ decoding input heard e.
                rw (w.script-is, w.writer-is)
                (goes_on decoding input (g.S.ScriptSource.rest c.loop.reader)
                (g.S.ScriptSource.rest c.read_some.new.self) (g.T.TextSink.held c.args.writer.now)
                (g.T.TextSink.held c.loop.writer) (g.T.TextSink.held w.feed.new.writer)
                c.loop.script w.feed.new.self (take w.in-Octets.n c.read_some.new.chunk)
                (c.loop.invariant.so_far decoding input heard e) w.in-Octets.ensures.piece.1 w.in_default.ensures.step);
          }
      | in-Interrupted w ↦
          record {
            midline = rw w.script-is c.loop.invariant.midline;
            calls =
                w.in-Interrupted.ensures.counted c.loop.counter c.args.reader.now c.loop.invariant.calls
                interrupted_end;
            line = rw w.script-is (omega (arith, c.loop.invariant.line));
            so_far = λ decoding input heard e.
                rw (w.script-is, w.writer-is)
                (waits decoding input (g.S.ScriptSource.rest c.loop.reader) (g.S.ScriptSource.rest c.read_some.new.self)
                (g.T.TextSink.held c.args.writer.now) (g.T.TextSink.held c.loop.writer) c.loop.script
                (c.loop.invariant.so_far decoding input heard e) w.in-Interrupted.ensures.piece);
          }
    ]

pub returns-clause-read : goal.returns-clause-read
returns-clause-read g c = λ e.
    let all : c.loop.counter ≡ 2 ^ 32 = omega arith in
    inr (subst (λ (n : ℕ). g.S.ScriptSource.goes_on n c.args.reader.now c.loop.reader) all c.loop.invariant.calls)
