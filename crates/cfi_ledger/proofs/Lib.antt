pub mod CallLemmas
pub mod EntryLemmas
pub mod MemberLemmas
pub mod PolicyLemmas
pub mod FlagLemmas
pub mod FindingLemmas
pub mod RosterLemmas
mod BookLemmas
pub mod StartLemmas
pub mod SuffixLemmas
pub mod DueLemmas
pub mod JoinedLemmas
pub mod EnterLemmas
pub mod OpeningLemmas
pub mod PlanLemmas
pub mod NumberedLemmas
