pub mod CtrState
pub mod ChainState
pub mod MacState
pub mod CbcState
pub mod OpenState
