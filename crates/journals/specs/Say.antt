-- What each answer of the code says, in the words of the definitions.
use Rattle.std.specs.Prelude.{Result, Ok, Err}
use Rattle.standard.specs.Calls as calls
use Rattle.standard.specs.Calls.{Lent}
use Rattle.standard.specs.Journal as paper
use Rattle.standard.specs.Journal.{payload, gap_notice, reset_notice, start_notice, Step, whole, more, unknown}
use Rattle.oamd.specs.Promises.{lent, said_decoded}
use Rattle.journals.specs.declared.records.Record.{Record}
use Rattle.journals.specs.declared.records.Record.TheVariants as kind
use Rattle.journals.specs.declared.records.Found.{Found}
use Rattle.journals.specs.declared.records.Pause.{Pause}
use Rattle.journals.specs.declared.records.Pause.TheVariants as pause
use Rattle.journals.specs.declared.replies.Answer.{Answer}
use Rattle.journals.specs.declared.replies.Reply.{Reply}
use Rattle.journals.specs.declared.replies.Reply.TheVariants as reply
use Rattle.journals.specs.declared.tables.Tables.{Tables}

abbrev pub said_record : Record → paper.Record
said_record (kind.Payload body) = payload body.now
said_record kind.Gap = gap_notice
said_record kind.Reset = reset_notice
said_record kind.Start = start_notice

abbrev pub said_found : Result Found Pause → Step
said_found (Ok f) = whole (said_record f.what) f.length
said_found (Err pause.More) = more
said_found (Err pause.Unknown) = unknown

abbrev pub said_answer : Answer → calls.Answer
said_answer a =
    record {
      verdict = record { number = a.number; context = a.context; place = a.place; missing = a.missing };
      objects = a.objects;
      blocks = a.blocks;
      unsettled = a.unsettled;
    }

abbrev pub said_reply : Reply → paper.Reply
said_reply (reply.Answered d) = paper.answered (said_decoded d)
said_reply reply.Noted = paper.noted
said_reply reply.Cleared = paper.cleared
said_reply reply.Started = paper.started

-- the tables of a program
abbrev pub lent_of : Tables → Lent
lent_of t = lent t.retained t.start t.blocks t.timings
