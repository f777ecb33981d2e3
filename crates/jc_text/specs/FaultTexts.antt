-- The words that are printed for a fault of a line (`bad number`, `not now`, ..).
--     text_of    the words of a fault
use Rattle.std.specs.Prelude.{ℕ, List, codes}
use Rattle.jc_types.specs.declared.config.Field.TheVariants.{Stripes, Capacity, History}
use Rattle.jc_text.specs.declared.fault.Fault.{Fault}
use Rattle.jc_text.specs.declared.fault.Fault.TheVariants.{CutLine, LineTooLong, BadByte, BadLine, BadNumber, BadCaller, BadKey}
use Rattle.jc_text.specs.declared.fault.Fault.TheVariants.{BadValue, RepeatedKey, NotOpen, OpenTwice, BadConfig, SetTooLate}
use Rattle.jc_text.specs.declared.fault.Fault.TheVariants.{NotRising, CallerBusy, NoSuchCall, NotNow}

abbrev pub text_of : Fault → List ℕ
text_of CutLine = codes "cut line"
text_of LineTooLong = codes "line too long"
text_of BadByte = codes "bad byte"
text_of BadLine = codes "bad line"
text_of BadNumber = codes "bad number"
text_of BadCaller = codes "bad caller"
text_of BadKey = codes "bad key"
text_of BadValue = codes "bad value"
text_of RepeatedKey = codes "repeated key"
text_of NotOpen = codes "not open"
text_of OpenTwice = codes "open twice"
text_of (BadConfig Stripes) = codes "bad config stripes"
text_of (BadConfig Capacity) = codes "bad config capacity"
text_of (BadConfig History) = codes "bad config history"
text_of SetTooLate = codes "set too late"
text_of NotRising = codes "number not rising"
text_of CallerBusy = codes "caller busy"
text_of NoSuchCall = codes "no such call"
text_of NotNow = codes "not now"
