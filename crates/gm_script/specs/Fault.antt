-- The codes of faulty rows and filters.
use Rattle.gm_base.specs.declared.code.Code.TheVariants.{E08, E09, E10, E11, E12, E14, E15, E16}
use Rattle.gm_base.specs.declared.code.Code.TheVariants.{E19}
use Rattle.gm_rows.specs.declared.fault.RowFault.{RowFault}
use Rattle.gm_rows.specs.declared.fault.RowFault.TheVariants as row
use Rattle.gm_ecql.specs.declared.fault.FilterFault.{FilterFault}
use Rattle.gm_ecql.specs.declared.fault.FilterFault.TheVariants as filter
use Rattle.gm_script.specs.declared.fault.LineFault.{LineFault}
use Rattle.gm_script.specs.declared.fault.LineFault.TheVariants as fault

abbrev pub row_fault : RowFault → LineFault
row_fault row.Count = fault.Refused E08 0
row_fault row.Value = fault.Refused E09 0
row_fault row.Geometry = fault.Refused E10 0
row_fault row.Date = fault.Refused E11 0
row_fault row.Id = fault.Refused E12 0
row_fault row.NoMemory = fault.NoMemory

abbrev pub filter_fault : FilterFault → LineFault
filter_fault filter.Syntax = fault.Refused E14 0
filter_fault (filter.Unknown name) = fault.Refused E15 0
filter_fault (filter.Literal name) = fault.Refused E16 0
filter_fault filter.Limit = fault.Refused E19 0
filter_fault filter.NoMemory = fault.NoMemory
