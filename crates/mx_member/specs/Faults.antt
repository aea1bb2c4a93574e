use Rattle.mx_journal.specs.declared.settlement.BaseFault.{BaseFault}
use Rattle.mx_journal.specs.declared.settlement.BaseFault.TheVariants as base
use Rattle.mx_journal.specs.declared.puts.PutFault.{PutFault}
use Rattle.mx_journal.specs.declared.puts.PutFault.TheVariants as put
use Rattle.mx_member.specs.declared.faults.DeliverFault.{DeliverFault}
use Rattle.mx_member.specs.declared.faults.DeliverFault.TheVariants as deliver

-- the fault of delivered records: a record with the number 0 is a conflict at 0
abbrev pub fault_of : PutFault → DeliverFault
fault_of put.ZeroNumber = deliver.Conflict 0
fault_of (put.Conflict n) = deliver.Conflict n
fault_of put.Memory = deliver.Memory

-- the fault of a delivered base that differs from the journal's: a conflict at the number of the
-- last section that both cover
abbrev pub base_fault_of : BaseFault → DeliverFault
base_fault_of (base.Conflict n) = deliver.Conflict n
