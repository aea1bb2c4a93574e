mod ExplainLemmas
mod ReportLemmas
