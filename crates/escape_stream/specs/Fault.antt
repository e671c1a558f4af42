-- The texts of the faults.
use Rattle.std.specs.Prelude.{ℕ, List, codes}
use Rattle.escape_stream.specs.declared.fault.ToolFault.{ToolFault}
use Rattle.escape_stream.specs.declared.fault.ToolFault.TheVariants.{ReadFailed, NotUtf8, TooLarge, OutOfMemory, WriteFailed}

-- what is printed of the fault
abbrev pub fault_text : ToolFault → List ℕ
fault_text ReadFailed = codes "reading failed"
fault_text NotUtf8 = codes "input is not UTF-8"
fault_text TooLarge = codes "input is too large"
fault_text OutOfMemory = codes "out of memory"
fault_text WriteFailed = codes "writing failed"
