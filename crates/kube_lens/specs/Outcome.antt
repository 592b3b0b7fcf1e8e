-- What a run writes and how it ends.
use Rattle.std.specs.Prelude.{◌≡◌, ℕ, true, false, List, codes, Option, Some, None}
use Rattle.run_edge.specs.declared.status.Verdict.TheVariants.{Done}
use Rattle.run_edge.specs.Outcome.{Outcome, Read, Reply, Unread}
use Rattle.run_edge.specs.Outcome as edge
use Rattle.lens_calm.specs.Answers as bounds_flags
use Rattle.lens_calm.specs.Documents as bounds
use Rattle.lens_explain.specs.Replies.{IsExplained}
use Rattle.lens_lateness.specs.FigureReplies as lateness_json
use Rattle.lens_lateness.specs.Replies as lateness
use Rattle.lens_plan.specs.Answers as tune
use Rattle.lens_room.specs.FlagReplies.{answer_to}
use Rattle.lens_room.specs.Flags.{behind}
use Rattle.lens_room.specs.MarginJson as margin_json
use Rattle.lens_room.specs.Replies as margin
use Rattle.lens_summary.specs.Figures as summary_json
use Rattle.lens_summary.specs.Summary as summary
use Rattle.lens_trace.specs.Leaders as leaders
use Rattle.lens_trace.specs.LeadersJson as leaders_json
use Rattle.lens_trace.specs.Lines as lines
use Rattle.script_reader.specs.Walk.{document_walk}
use Rattle.kube_lens.specs.declared.asked.Asked.{Asked}
use Rattle.kube_lens.specs.declared.asked.Asked.TheVariants.{Margin, MarginJson, Bounds, BoundsJson, Leaders, LeadersJson, Summary, SummaryJson, Lateness, LatenessJson, Lines, Explain, ExplainJson}
use Rattle.kube_lens.specs.declared.command.Command.{Command}
use Rattle.kube_lens.specs.declared.command.Command.TheVariants.{Help, Flags, BoundsFlags, Tune, Asks}
use Rattle.kube_lens.specs.Commands.{command_of}

-- what `--help` tells
abbrev pub help : Reply
help = record {
  verdict = Done;
  text = codes "kube_lens: answers on leader elections, in a person's words\n\nkube_lens margin < document         for each controller what its lease has to outlast, and what is left\nkube_lens margin --json < document  the same as one JSON object\nkube_lens margin --lease 15s ..     the same of flags: --lease --renew --retry --timeout --skew --beat --release ..\nkube_lens bounds < document         how long nobody leads and a dead node's pods stay, at least and at most\nkube_lens bounds --json < document  the same as one JSON object\nkube_lens bounds --timeout 5s ..    the same of flags: those of margin but of releases, --wait --delay --grace ..\nkube_lens tune --failover 10s ..    the flags by which another leads so soon after a crash; --timeout --skew ..\nkube_lens leaders < trace           who led from when to when, when nobody did, and whether two did at once\nkube_lens leaders --json < trace    the same as one JSON object\nkube_lens summary < trace           what a trace comes to, as tables: terms, zones, nodes, evictions, totals\nkube_lens summary --json < trace    the same as one JSON object\nkube_lens summary --document        the tables of a document and, behind it, its trace, and how late pods were evicted\nkube_lens summary --document --json the same as one JSON object\nkube_lens lines --json < trace      each line of a trace as a JSON object on a line of its own, for jq\nkube_lens explain < document        why a document is refused, where, and what may stand there\nkube_lens explain --json < document the same as one JSON object\nkube_lens --help                    these lines\n\nExit status: 0 safe or told, 1 unsafe or refused, 2 no such command, 3 the input can't be read,\n4 the output can't be written, 5 memory ran out, 6 a word isn't UTF-8.\n";
}

-- the words are no command
abbrev pub usage : Reply
usage = edge.usage (codes "usage: kube_lens COMMAND (kube_lens --help tells them)\n")

-- what the bytes of an input are answered
abbrev pub IsReply : Asked → List ℕ → Reply → Type 0
IsReply Margin bytes reply = reply ≡ margin.found (document_walk bytes)
IsReply MarginJson bytes reply = reply ≡ margin_json.found (document_walk bytes)
IsReply Bounds bytes reply = reply ≡ bounds.found (document_walk bytes)
IsReply BoundsJson bytes reply = reply ≡ bounds.found_json (document_walk bytes)
IsReply Leaders bytes reply = reply ≡ leaders.leaders_reply bytes
IsReply LeadersJson bytes reply = reply ≡ leaders_json.leaders_reply bytes
IsReply Summary bytes reply = reply ≡ summary.summary_reply bytes
IsReply SummaryJson bytes reply = reply ≡ summary_json.figures_reply bytes
IsReply Lateness bytes reply = reply ≡ lateness.lateness_reply bytes
IsReply LatenessJson bytes reply = reply ≡ lateness_json.figures_reply bytes
IsReply Lines bytes reply = reply ≡ lines.lines_reply bytes
IsReply Explain bytes reply = IsExplained false bytes reply
IsReply ExplainJson bytes reply = IsExplained true bytes reply

-- all bytes are read where they are asked about; else the source isn't read
abbrev pub IsOutcomeOf : Option Command → List (List ℕ) → List ℕ → Outcome → Type 0
IsOutcomeOf (Some Help) words = Unread help
IsOutcomeOf (Some Flags) words = Unread (answer_to (behind words))
IsOutcomeOf (Some BoundsFlags) words = Unread (bounds_flags.answer_to (behind words))
IsOutcomeOf (Some Tune) words = tune.Answers (behind words)
IsOutcomeOf (Some (Asks asked)) words = Read (IsReply asked)
IsOutcomeOf None words = Unread usage

-- the one answer without the source; that of `tune` isn't computed here
abbrev pub unread_reply : Option Command → List (List ℕ) → Option Reply
unread_reply (Some Help) words = Some help
unread_reply (Some Flags) words = Some (answer_to (behind words))
unread_reply (Some BoundsFlags) words = Some (bounds_flags.answer_to (behind words))
unread_reply (Some Tune) words = None
unread_reply (Some (Asks asked)) words = None
unread_reply None words = Some usage

-- by the words after the program's name and all bytes of the source
abbrev pub IsOutcome : List (List ℕ) → List ℕ → Outcome → Type 0
IsOutcome words = IsOutcomeOf (command_of words) words
